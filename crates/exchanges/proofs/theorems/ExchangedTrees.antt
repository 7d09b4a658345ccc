-- The exchanged tree as a table. Where label 0 keeps its place it is the table with two label words exchanged; where label 0 is
-- moved it is the table re-rooted at the other tip. The distance of an exchange is the quartet distance to it.
-- Assumes nothing.
use Rattle.std.specs.Prelude.{◌≡◌, ◌≢◌}
use Rattle.std.proofs.Math.Path.{sym, ap}
use Rattle.std.proofs.Common.{◌∙◌, arith}
use Prim.Native.Nat.{ℕ, ◌<◌}
use Rattle.std.proofs.Math.Decide.{ℕ_discrete}
use Rattle.sums.specs.Bits.{bit}
use Rattle.sums.specs.theorems.SetLaws.{sets4_ext}
use Rattle.trees.specs.declared.quartet.Topology.{Topology}
use Rattle.tree_check.specs.Table.{Table, word, tips, parent, label, node_of}
use Rattle.tree_check.specs.IsTree.{IsTree}
use Rattle.walks.specs.theorems.NodeLabels.{node_at, node_only}
use Rattle.trees.specs.Topology.{butterfly, topology}
use Rattle.counting.specs.Labels.{all}
use Rattle.counting.specs.declared.Case.{Case}
use Rattle.counting.specs.Cases.{case_of, is_case, topology_at, quartets}
use Rattle.exchanges.specs.Exchanges.{exchanged_butterfly, exchanged_topology, exchange_cases}
use Rattle.sums.specs.Swaps.{swapped}
use Rattle.sums.specs.theorems.SwapLaws.{swapped-first, swapped_second, swapped_other, swapped_twice, swapped-lt}
use Rattle.rerooting.specs.Rerooted.{rerooted}
use Rattle.rerooting.specs.theorems.RerootedParts as RerootedParts
use Rattle.rerooting.specs.theorems.RerootedTree.{rerooted_tree}
use Rattle.rerooting.specs.theorems.RerootedTopology.{rerooted-butterfly}
use Rattle.exchanges.specs.theorems.ExchangedTrees.{IsExchanged, Relabelled, exchanged_tree}

-- so its cases against t are those of the exchange
module _ (t u : Table) (x y : ℕ) (e : IsExchanged t u x y) where
  exchanged_topology_lem : (a b c d : ℕ) → a < tips t → b < tips t → c < tips t → d < tips t
      → exchanged_topology t x y a b c d ≡ topology u a b c d
  unfolding exchanged_topology topology
  exchanged_topology_lem a b c d la lb lc ld = rw (
    e.butterflies a b c d la lb lc ld,
    e.butterflies a c b d la lc lb ld,
    e.butterflies a d b c la ld lb lc,
  )

  pub exchanged_cases : (k : Case) → exchange_cases t x y k ≡ quartets (all (tips t)) t u k
  unfolding exchange_cases quartets topology_at
  exchanged_cases k = sets4_ext (tips t) _ _ (λ a b c d ab bc cd l.
      ap (λ (q : Topology). bit (is_case (case_of (topology t a b c d) q) k))
      (exchanged_topology_lem a b c d (omega arith) (omega arith) (omega arith) l))

-- ---- label 0 in its place: two label words exchanged

module _ (t u : Table) (x y : ℕ) (g : IsTree t) (h : IsTree u) (lx : x < tips t) (ly : y < tips t)
    (r : Relabelled t u x y) where
  moved_node : (a : ℕ) → a < tips t → node_of u a ≡ node_of t (swapped x y a)
  moved_node a l =
      let v = node_at t g (swapped x y a) (swapped-lt x y a (tips t) lx ly l) in
      node_only u h a (node_of t (swapped x y a)) (omega (arith, r.same_tips)) (omega (arith, v.0, r.same_nodes))
      (r.labels _ v.0 ∙ ap (swapped x y) v.1 ∙ swapped_twice x y a)

  same_up : parent t ≡ parent u
  unfolding parent
  same_up = ap word r.same_parents

  pub relabelled-exchanged : IsExchanged t u x y
  unfolding exchanged_butterfly butterfly
  relabelled-exchanged = record {
    same_tips = sym r.same_tips;
    butterflies = λ a b c d la lb lc ld. rw (
      moved_node a la,
      moved_node b lb,
      moved_node c lc,
      moved_node d ld,
      same_up,
      r.same_nodes,
    );
  }

  pub exchanged_table : (k : Case) → exchange_cases t x y k ≡ quartets (all (tips t)) t u k
  exchanged_table = exchanged_cases t u x y relabelled-exchanged

-- ---- label 0 moved: the table re-rooted

module _ (t : Table) (g : IsTree t) where
  rerooted-exchanged : (y : ℕ) → y < tips t → IsExchanged t (rerooted t y) 0 y
  unfolding exchanged_butterfly
  rerooted-exchanged y ly = record {
    same_tips = RerootedParts.same_tips t y;
    butterflies = λ a b c d la lb lc ld.
        sym (rerooted-butterfly t g y ly (σ a) (σ b) (σ c) (σ d) (below a la) (below b lb) (below c lc) (below d ld))
        ∙ rw (swapped_twice 0 y a, swapped_twice 0 y b, swapped_twice 0 y c, swapped_twice 0 y d);
  }
    where
      σ : ℕ → ℕ
      σ = swapped 0 y

      below : (a : ℕ) → a < tips t → swapped 0 y a < tips t
      below a la = swapped-lt 0 y a (tips t) (omega arith) ly la

  -- the tree against itself re-rooted at y
  pub exchanged_with_0 : (y : ℕ) → y < tips t → (k : Case) → exchange_cases t 0 y k ≡ quartets (all (tips t)) t (rerooted t y) k
  exchanged_with_0 y ly = exchanged_cases t (rerooted t y) 0 y (rerooted-exchanged y ly)

-- ---- any two labels: re-rooted at the smaller, at the larger and at the smaller again

-- the three exchanges with 0 are the exchange of x and y
three_swaps : (x y a : ℕ) → x < y → swapped 0 x (swapped 0 y (swapped 0 x a)) ≡ swapped x y a
three_swaps x y a l = elim (ℕ_discrete a x) [
  | yes e ↦ ap three e ∙ at_x ∙ sym (ap (swapped x y) e ∙ swapped-first x y)
  | no d ↦ elim (ℕ_discrete a y) [
    | yes e ↦ ap three e ∙ at_y ∙ sym (ap (swapped x y) e ∙ swapped_second x y)
    | no f ↦ elim (ℕ_discrete a 0) [
      | yes e ↦ ap three e ∙ at-0 (λ q. d (e ∙ sym q)) ∙ sym e ∙ sym (swapped_other x y a d f)
      | no e ↦ away e d f ∙ sym (swapped_other x y a d f)
    ]
  ]
]
  where
    three : ℕ → ℕ
    three b = swapped 0 x (swapped 0 y (swapped 0 x b))

    y-stays : swapped 0 x y ≡ y
    y-stays = swapped_other 0 x y (λ e. omega arith) (λ e. omega arith)

    at_x : three x ≡ y
    at_x = rw (swapped_second 0 x, swapped-first 0 y) y-stays

    at_y : three y ≡ x
    at_y = rw (y-stays, swapped_second 0 y) (swapped-first 0 x)

    at-0 : x ≢ 0 → three 0 ≡ 0
    at-0 d = rw (swapped-first 0 x, swapped_other 0 y x d (λ e. omega arith)) (swapped_second 0 x)

    away : a ≢ 0 → a ≢ x → a ≢ y → three a ≡ a
    away e d f = rw (swapped_other 0 x a e d, swapped_other 0 y a e f) (swapped_other 0 x a e d)

module _ (t : Table) (g : IsTree t) (x y : ℕ) (l : x < y) (ly : y < tips t) where
  abbrev once : Table
  once = rerooted t x

  abbrev twice : Table
  twice = rerooted once y

  n_once : tips once ≡ tips t
  n_once = RerootedParts.same_tips t x

  n_twice : tips twice ≡ tips t
  n_twice = RerootedParts.same_tips once y ∙ n_once

  lx : x < tips t
  lx = omega arith

  g_once : IsTree once
  g_once = rerooted_tree t g x lx

  ly_once : y < tips once
  ly_once = omega (arith, n_once)

  g_twice : IsTree twice
  g_twice = rerooted_tree once g_once y ly_once

  lx_twice : x < tips twice
  lx_twice = omega (arith, n_twice)

  pub exchanged_tree_lem : IsTree (exchanged_tree t x y)
  unfolding exchanged_tree
  exchanged_tree_lem = rerooted_tree twice g_twice x lx_twice

  -- four labels of the re-rooted table have the butterfly of the four that stood at their tips
  moved : (a b c d : ℕ) → a < tips t → b < tips t → c < tips t → d < tips t
      → butterfly (exchanged_tree t x y) (swapped 0 x (swapped 0 y (swapped 0 x a))) (swapped 0 x (swapped 0 y (swapped 0 x b)))
      (swapped 0 x (swapped 0 y (swapped 0 x c))) (swapped 0 x (swapped 0 y (swapped 0 x d)))
      ≡ butterfly t a b c d
  unfolding exchanged_tree
  moved a b c d la lb lc ld =
      rerooted-butterfly twice g_twice x lx_twice _ _ _ _
      (below-twice a la) (below-twice b lb) (below-twice c lc) (below-twice d ld)
      ∙ rerooted-butterfly once g_once y ly_once _ _ _ _
      (below-once a la) (below-once b lb) (below-once c lc) (below-once d ld)
      ∙ rerooted-butterfly t g x lx a b c d la lb lc ld
    where
      below-once : (a : ℕ) → a < tips t → swapped 0 x a < tips once
      below-once a la = rw n_once (swapped-lt 0 x a (tips t) (omega arith) lx la)

      below-twice : (a : ℕ) → a < tips t → swapped 0 y (swapped 0 x a) < tips twice
      below-twice a la = rw n_twice
          (swapped-lt 0 y (swapped 0 x a) (tips t) (omega arith) ly (swapped-lt 0 x a (tips t) (omega arith) lx la))

  pub exchanged_tree_is : IsExchanged t (exchanged_tree t x y) x y
  unfolding exchanged_butterfly
  exchanged_tree_is = record {
    same_tips = unfold exchanged_tree in RerootedParts.same_tips twice x ∙ n_twice;
    butterflies = λ a b c d la lb lc ld.
        sym (moved (σ a) (σ b) (σ c) (σ d) (below a la) (below b lb) (below c lc) (below d ld))
        ∙ rw (back a, back b, back c, back d);
  }
    where
      σ : ℕ → ℕ
      σ = swapped x y

      below : (a : ℕ) → a < tips t → swapped x y a < tips t
      below a la = swapped-lt x y a (tips t) lx ly la

      back : (a : ℕ) → swapped 0 x (swapped 0 y (swapped 0 x (swapped x y a))) ≡ a
      back a = three_swaps x y (swapped x y a) l ∙ swapped_twice x y a

  -- so every exchange is counted as the quartet table of two tree tables is
  pub exchange_of_tables : (k : Case) → exchange_cases t x y k ≡ quartets (all (tips t)) t (exchanged_tree t x y) k
  exchange_of_tables = exchanged_cases t (exchanged_tree t x y) x y exchanged_tree_is
