-- A re-rooted table is the same unrooted tree: the same edges, and the topologies of four labels with 0 and x exchanged.
-- Assumes nothing.
use Rattle.std.specs.Prelude.{◌≡◌, refl, ◌⊎◌, ℕ, ◌+◌, suc, ◌-◌, ◌≤◌, ◌<◌}
use Rattle.std.proofs.Common.{sym, ◌∙◌, ap₂, inl, inr}
use Rattle.std.proofs.Math.Path.{ap}
use native.Mathlib.Omega.{arith}
use Rattle.sums.specs.Bits.{bit}
use Rattle.sums.specs.theorems.BitLaws.{bit_cases}
use Rattle.sums.specs.theorems.TestLaws.{same_test}
use Rattle.shapes.specs.Ancestors.{anc}
use Rattle.shapes.specs.Quartets.{Apart}
use Rattle.shapes.specs.theorems.AncestorLaws.{Rooted}
use Rattle.shapes.proofs.theorems.AncestorLaws.{up_ind, anc_at_zero, anc_up, parent-lt}
use Rattle.shapes.specs.theorems.FourLabels.{Four}
use Rattle.shapes.proofs.theorems.FourLabels.{swapped_four}
use Rattle.shapes.proofs.theorems.PartedFours.{parted-iff}
use Rattle.shapes.specs.theorems.Topologies.{first_passed}
use Rattle.shapes.proofs.theorems.Topologies.{case_in}
use Rattle.tree_check.specs.Table.{Table, tips, nodes, parent, node_of}
use Rattle.tree_check.specs.IsTree.{IsTree}
use Rattle.tree_check.specs.theorems.RootedTables.{rooted}
use Rattle.walks.specs.theorems.NodeLabels.{node_at}
use Rattle.trees.specs.Topology.{butterfly, topology}
use Rattle.trees.specs.theorems.PartnerLaws.{partner-apart, partner-swap_right}
use Rattle.counting.specs.Cases.{case_of, case_number}
use Rattle.counting.proofs.theorems.CasesInShapes.{case_named}
use Rattle.shapes.specs.Rerooting.{rerooted_up}
use Rattle.rerooting.specs.Rerooted.{rerooted, new_parent}
use Rattle.shapes.proofs.theorems.RerootedNumbers.{rerooted_rooted}
use Rattle.shapes.proofs.theorems.RerootedSides.{SameEdge, kept, reversed, edge_there, edge_back, step_up}
use Rattle.rerooting.specs.theorems.RerootedParts.{same_nodes, new_parent_lem}
use Rattle.sums.specs.Swaps.{swapped}
use Rattle.rerooting.specs.theorems.RerootedTree.{new_number, number_lt, rerooted_tree, rerooted_node, parent_on, parent_off}

module _ (t : Table) (g : IsTree t) (x : ℕ) (lx : x < tips t) where
  abbrev up : ℕ → ℕ
  up = parent t

  abbrev m : ℕ
  m = nodes t

  abbrev z : ℕ
  z = node_of t x

  lz : z < m
  lz = (node_at t g x lx).0

  abbrev ν : ℕ → ℕ
  ν = new_number t g x lx

  -- the edge above node i joins the same two nodes, whichever of them is the parent now
  pub rerooted_edges : (i : ℕ) → 1 ≤ i → i < nodes t
      → (parent (rerooted t x) (new_number t g x lx i) ≡ new_number t g x lx (parent t i))
      ⊎ (parent (rerooted t x) (new_number t g x lx (parent t i)) ≡ new_number t g x lx i)
  rerooted_edges i p l = elim (bit_cases (anc up i z)) [
    | inl o ↦ inl (parent_off t g x lx i l o)
    | inr o ↦ (
        let s = step_up up m z (rooted t g) lz i p l o in
        let lu : up i < m = omega (arith, parent-lt up (rooted t g) i p) in
        inr (omega (arith, parent_on t g x lx (up i) lu s.1, s.2.number)))
  ]

  -- ---- four labels

  abbrev t' : Table
  t' = rerooted t x

  g' : IsTree (rerooted t x)
  g' = rerooted_tree t g x lx

  abbrev tu : ℕ → ℕ
  tu = rerooted_up up m z

  -- the renumbered parents, at the nodes that there are
  same_anc : (i v : ℕ) → v < m → bit (anc (parent t') i v) ≡ bit (anc tu i v)
  same_anc i v =
      up_ind (parent t') (rooted t' g') (λ v. v < m → bit (anc (parent t') i v) ≡ bit (anc tu i v))
      (λ l. anc_at_zero (parent t') (rooted t' g') i ∙ sym (anc_at_zero tu q i))
      (λ w ih l.
      let e : parent t' (suc w) ≡ tu (suc w) = unfold new_parent in new_parent_lem t x (suc w) l in
      omega (
        arith,
        anc_up (parent t') (rooted t' g') i w,
        anc_up tu q i w,
        ih (omega (arith, (rooted t' g').falls w)),
        ap (λ (u : ℕ). bit (anc tu i u)) e,
      ))
      v
    where
      q : Rooted tu
      q = rerooted_rooted up m z (rooted t g) lz

  -- the side of a label, by the node it had
  side : (j y : ℕ) → y < tips t → bit (anc (parent t') j (node_of t' (swapped 0 x y))) ≡ bit (anc tu j (ν (node_of t y)))
  side j y l =
      ap (λ (v : ℕ). bit (anc (parent t') j v)) (rerooted_node t g x lx y l)
      ∙ same_anc j (ν (node_of t y)) (number_lt t g x lx _ (node_at t g y l).0)

  -- .. which is that of edge i, or the other
  pub side_kept : (i j : ℕ) → ((w : ℕ) → w < m → bit (anc tu j (ν w)) ≡ bit (anc up i w)) → (y : ℕ) → y < tips t
      → bit (anc (parent t') j (node_of t' (swapped 0 x y))) ≡ bit (anc up i (node_of t y))
  side_kept i j h y l = side j y l ∙ h (node_of t y) (node_at t g y l).0

  pub side_reversed : (i j : ℕ) → ((w : ℕ) → w < m → bit (anc tu j (ν w)) + bit (anc up i w) ≡ 1) → (y : ℕ) → y < tips t
      → bit (anc (parent t') j (node_of t' (swapped 0 x y))) + bit (anc up i (node_of t y)) ≡ 1
  side_reversed i j h y l = ap (λ (k : ℕ). k + bit (anc up i (node_of t y))) (side j y l) ∙ h (node_of t y) (node_at t g y l).0

  module _ (a b c d : ℕ) (la : a < tips t) (lb : b < tips t) (lc : c < tips t) (ld : d < tips t) where
    abbrev σ : ℕ → ℕ
    σ = swapped 0 x

    abbrev old : ℕ → Type 0
    old i = Apart up i (node_of t a) (node_of t b) (node_of t c) (node_of t d)

    abbrev new : ℕ → Type 0
    new j = Apart (parent t') j (node_of t' (σ a)) (node_of t' (σ b)) (node_of t' (σ c)) (node_of t' (σ d))

    -- the four tips keep their sides of an edge, or all of them change
    there : (i j : ℕ) → SameEdge up m z (rooted t g) lz i j → old i → new j
    there i j (kept h) p = omega (arith, side_kept i j h a la, side_kept i j h b lb, side_kept i j h c lc, side_kept i j h d ld)
    there i j (reversed h) p = omega (arith, side_reversed i j h a la, side_reversed i j h b lb, side_reversed i j h c lc, side_reversed i j h d ld)

    back : (i j : ℕ) → SameEdge up m z (rooted t g) lz i j → new j → old i
    back i j (kept h) p = omega (arith, side_kept i j h a la, side_kept i j h b lb, side_kept i j h c lc, side_kept i j h d ld)
    back i j (reversed h) p = omega (arith, side_reversed i j h a la, side_reversed i j h b lb, side_reversed i j h c lc, side_reversed i j h d ld)

    -- some edge has a, b on one side and c, d on the other in t exactly if one has the exchanged labels so in the
    -- re-rooted table
    pub rerooted-butterfly : butterfly (rerooted t x) (swapped 0 x a) (swapped 0 x b) (swapped 0 x c) (swapped 0 x d)
        ≡ butterfly t a b c d
    unfolding butterfly
    rerooted-butterfly = same_test _ _
        (λ y. let s = (parted-iff (parent t') (nodes t' - 1) _ _ _ _).0 y in
        let e = edge_back up m z (rooted t g) lz s.0 s.1 (omega (arith, s.1, s.2, same_nodes t x)) in
        (parted-iff up (m - 1) _ _ _ _).1 (e.0, e.1, omega (arith, e.2), back e.0 s.0 e.3 s.3))
        (λ y. let s = (parted-iff up (m - 1) _ _ _ _).0 y in
        let e = edge_there up m z (rooted t g) lz s.0 s.1 (omega (arith, s.1, s.2)) in
        (parted-iff (parent t') (nodes t' - 1) _ _ _ _).1
        (e.0, e.1, omega (arith, e.2, same_nodes t x), there s.0 e.0 e.3 s.3))

-- ---- two tables: the case of four labels

-- the case of four different labels is read from the tests alone
pub case_of_tests : (t u : Table) (n a b c d : ℕ) → Four n a b c d
    → case_number (case_of (topology t a b c d) (topology u a b c d))
    ≡ case_in (first_passed (butterfly t a b c d) (butterfly t a c b d) (butterfly t a d b c))
    (first_passed (butterfly u a b c d) (butterfly u a c b d) (butterfly u a d b c))
unfolding topology
case_of_tests t u n a b c d f = case_named _ _ _
    (partner-apart a b c d f.ad f.bc)
    (rw (partner-swap_right a b c d) (partner-apart a b d c f.ac f.bd))
    (rw (partner-swap_right a c b d, partner-swap_right a d b c)
    (partner-apart a c d b f.ab f.cd))
    _ _ _ _ _ _

module _ (t u : Table) (g : IsTree t) (h : IsTree u) (e : tips t ≡ tips u) (x : ℕ) (lx : x < tips t) where
  -- four labels are in the same case, with 0 and x exchanged
  pub rerooted_case : (a b c d : ℕ) → Four (tips t) a b c d
      → case_number (case_of (topology (rerooted t x) (swapped 0 x a) (swapped 0 x b) (swapped 0 x c) (swapped 0 x d))
      (topology (rerooted u x) (swapped 0 x a) (swapped 0 x b) (swapped 0 x c) (swapped 0 x d)))
      ≡ case_number (case_of (topology t a b c d) (topology u a b c d))
  rerooted_case a b c d f =
      case_of_tests (rerooted t x) (rerooted u x) (tips t) _ _ _ _ (swapped_four (tips t) 0 x a b c d (omega (arith, lx)) lx f)
      ∙ ap₂ case_in (tests t g refl) (tests u h e)
      ∙ sym (case_of_tests t u (tips t) a b c d f)
    where
      tests : (s : Table) → IsTree s → tips t ≡ tips s
          → first_passed (butterfly (rerooted s x) (swapped 0 x a) (swapped 0 x b) (swapped 0 x c) (swapped 0 x d))
          (butterfly (rerooted s x) (swapped 0 x a) (swapped 0 x c) (swapped 0 x b) (swapped 0 x d))
          (butterfly (rerooted s x) (swapped 0 x a) (swapped 0 x d) (swapped 0 x b) (swapped 0 x c))
          ≡ first_passed (butterfly s a b c d) (butterfly s a c b d) (butterfly s a d b c)
      tests s k q =
          let l : x < tips s = omega arith in
          let la : a < tips s = omega (arith, f.la) in
          let lb : b < tips s = omega (arith, f.lb) in
          let lc : c < tips s = omega (arith, f.lc) in
          let ld : d < tips s = omega (arith, f.ld) in
          rw (
            rerooted-butterfly s k x l a b c d la lb lc ld,
            rerooted-butterfly s k x l a c b d la lc lb ld,
            rerooted-butterfly s k x l a d b c la ld lb lc,
          )
