-- The walk holds every label once, and the labels beyond an edge are one part of it.
-- Assumes nothing.
use Rattle.std.specs.Prelude.{◌≡◌, ℕ, zero, suc, ◌+◌, ◌*◌, ◌<◌, ◌≤◌, List, [], ◌++◌, length, take, drop}
use Rattle.std.proofs.Math.Path.{refl, sym, ap}
use Rattle.std.proofs.Common.{◌∙◌, append_assoc, append-nil, length-append, drop_at}
use Rattle.std.proofs.Math.Nat.{mul-one}
use native.Mathlib.Omega.{arith}
use Rattle.std.proofs.Math.Dec.{eqb-suc-zero}
use Rattle.std.proofs.Math.ListN.{length-drop}
use Rattle.std.proofs.Math.Seq.{take_at, length-take-le}
use Rattle.sums.specs.Sum.{sum}
use Rattle.sums.specs.theorems.SumLaws.{sum_cong, sum_const}
use Rattle.sums.specs.Bits.{bit}
use Rattle.shapes.proofs.theorems.AncestorLaws.{up_ind, anc_root}
use Rattle.tree_check.specs.Table.{Table, word, tips, nodes, parent, node_of, beyond}
use Rattle.tree_check.specs.IsTree.{IsTree}
use Rattle.tree_check.specs.theorems.RootedTables.{rooted}
use Rattle.tree_check.specs.TreeOrder.{is_child, standing}
use Rattle.walks.specs.Walk.{own, in_turn, walk_from, walk, below, start_in, start, part}
use Rattle.walks.specs.theorems.Weights.{in_turn_split}
use Rattle.walks.specs.theorems.WalkFrom.{child_parent, walk_from_step, children-length, walk_from-length}
use Rattle.walks.specs.theorems.WalkFrom.{walk_from_holds, walk_from-labels}

module _ (t : Table) (g : IsTree t) where
  -- ---- where the walk from a node stands in the walk

  start_more : (f w : ℕ)
      → start_in t (suc f) (suc w)
      ≡ start_in t f (parent t (suc w)) + length (own t (parent t (suc w)))
      + sum (suc w) (λ c. bit (is_child (parent t) (parent t (suc w)) c) * below t c)
  unfolding start_in
  start_more f w = rw (eqb-suc-zero w, start_in)

  start_none : (f : ℕ) → start_in t f 0 ≡ 0
  unfolding start_in
  start_none zero = refl
  start_none (suc f) = refl

  -- more steps than v make no difference
  start_enough : (f h v : ℕ) → v ≤ f → v ≤ h → start_in t f v ≡ start_in t h v
  start_enough zero h zero a b = start_none 0 ∙ sym (start_none h)
  start_enough (suc f) h zero a b = start_none (suc f) ∙ sym (start_none h)
  start_enough zero h (suc w) a b = absurd (omega arith)
  start_enough (suc f) zero (suc w) a b = absurd (omega arith)
  start_enough (suc f) (suc h) (suc w) a b = let l = (rooted t g).falls w in omega (
    arith,
    start_more f w,
    start_more h w,
    start_enough f h (parent t (suc w)) (omega arith) (omega arith),
  )

  pub start-zero : start t 0 ≡ 0
  unfolding start
  start-zero = start_none 0

  -- after its parent's own and the parent's earlier children
  pub start-suc : (w : ℕ)
      → start t (suc w)
      ≡ start t (parent t (suc w)) + length (own t (parent t (suc w)))
      + sum (suc w) (λ c. bit (is_child (parent t) (parent t (suc w)) c) * below t c)
  unfolding start
  start-suc w = omega (
    arith,
    start_more w w,
    start_enough w (parent t (suc w)) (parent t (suc w)) ((rooted t g).falls w) (omega arith),
  )

  -- the walk, cut before and after the walk from node v
  record Placed (v : ℕ) : Type 0 where
    before : List ℕ
    after : List ℕ
    whole : walk t ≡ before ++ (walk_from t v ++ after)
    many : length before ≡ start t v

  placed : (v : ℕ) → v < nodes t → Placed v
  unfolding walk
  placed = up_ind (parent t) (rooted t g) (λ v. v < nodes t → Placed v) (λ l. top) (λ w ih l. next w ih l)
    where
      top : Placed 0
      top = record { before = []; after = []; whole = sym (append-nil (walk_from t 0)); many = sym start-zero }

      next : (w : ℕ) → (parent t (suc w) < nodes t → Placed (parent t (suc w))) → suc w < nodes t
          → Placed (suc w)
      next w ih l =
          let f = (rooted t g).falls w in
          let v = parent t (suc w) in
          let p = ih (omega arith) in
          let q = is_child (parent t) v in
          let s = in_turn_split (nodes t) (suc w) q (walk_from t) l (child_parent t g w l) in
          let kids = in_turn (suc w) q (walk_from t) in
          record {
            before = p.before ++ (own t v ++ kids);
            after = s.0 ++ p.after;
            whole = p.whole
                ∙ ap (λ (x : List ℕ). p.before ++ (x ++ p.after)) (walk_from_step t g v (omega arith))
                ∙ ap (λ (x : List ℕ). p.before ++ ((own t v ++ x) ++ p.after)) s.1
                ∙ simp append_assoc;
            many = omega (
              arith,
              length-append p.before (own t v ++ kids),
              length-append (own t v) kids,
              p.many,
              children-length t g v (suc w) (omega arith),
              start-suc w,
            );
          }

  -- ---- the walk's parts

  -- on the walk, the part of edge i holds exactly the labels beyond it
  pub part-walk : (i : ℕ) → i < nodes t → part t i (walk t) ≡ walk_from t i
  unfolding part
  part-walk i l = let p = placed i l in
      ap (λ (w : List ℕ). take (below t i) (drop (start t i) w)) p.whole
      ∙ ap (take (below t i)) (drop_at p.before (walk_from t i ++ p.after) (start t i) p.many)
      ∙ take_at (walk_from t i) p.after (below t i) (walk_from-length t g i l)

  pub part_holds : (i x : ℕ) → i < nodes t → x < tips t
      → standing (length (part t i (walk t))) (word (part t i (walk t))) x ≡ bit (beyond t i x)
  part_holds i x l lx = rw (part-walk i l) (walk_from_holds t g i x l lx)

  pub part-labels : (i j : ℕ) → i < nodes t → j < below t i → word (part t i (walk t)) j < tips t
  part-labels i j l h = rw (part-walk i l) (walk_from-labels t g i j l h)

  -- ---- the whole walk

  some_node : 0 < nodes t
  some_node = omega (arith, g.tips_range, g.nodes_range)

  below_root : below t 0 ≡ tips t
  unfolding below beyond
  below_root =
      sum_cong (tips t) (λ x. anc_root (parent t) (rooted t g) (node_of t x))
      ∙ sum_const (tips t) 1
      ∙ mul-one (tips t)

  pub walk-length : length (walk t) ≡ tips t
  unfolding walk
  walk-length = walk_from-length t g 0 some_node ∙ below_root

  -- every label stands in the walk exactly once
  pub walk_once : (x : ℕ) → x < tips t → standing (tips t) (word (walk t)) x ≡ 1
  unfolding walk beyond
  walk_once x l =
      rw (← walk-length) (walk_from_holds t g 0 x some_node l ∙ anc_root (parent t) (rooted t g) (node_of t x))

  pub walk-labels : (j : ℕ) → j < tips t → word (walk t) j < tips t
  unfolding walk
  walk-labels j l = walk_from-labels t g 0 j some_node (omega (arith, below_root))

  -- ---- parts of any list of the walk's length

  pub part_fits : (i : ℕ) → i < nodes t → start t i + below t i ≤ tips t
  part_fits i l = let p = placed i l in omega (
    arith,
    walk-length,
    ap length p.whole,
    length-append p.before (walk_from t i ++ p.after),
    length-append (walk_from t i) p.after,
    p.many,
    walk_from-length t g i l,
  )

  pub part_length : (i : ℕ) → i < nodes t → (w : List ℕ) → tips t ≤ length w → length (part t i w) ≡ below t i
  unfolding part
  part_length i l w h = length-take-le (below t i) (drop (start t i) w)
      (omega (arith, length-drop (start t i) w, part_fits i l))
