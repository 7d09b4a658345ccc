-- On a table without pass-through nodes different edges have different tip sets, so that its splits are edges.
-- Assumes nothing.
use Rattle.std.specs.Prelude.{◌≡◌, Bool, ◌&&◌, ◌≢◌, ℕ, suc, ◌-◌, ◌≤◌, ◌<◌}
use Rattle.std.proofs.Math.Path.{sym, ap}
use Rattle.std.proofs.Common.{◌∙◌, arith}
use Rattle.std.proofs.Math.Decide.{dec_lt}
use Rattle.sums.specs.Bits.{bit}
use Rattle.sums.specs.theorems.BitLaws.{bit_not, bit_no, bit-T}
use Rattle.sums.specs.theorems.SumLaws.{sum_ext}
use Rattle.sums.specs.Counts.{count}
use Rattle.shapes.specs.Ancestors.{anc}
use Rattle.shapes.proofs.theorems.AncestorLaws.{anc_trans, anc-line, one_child}
use Rattle.shapes.proofs.theorems.PathLaws.{towards}
use Rattle.shapes.specs.Splits.{is_split, occurs, is_new_split, splits_of, common_of, SameSides, same, turned}
use Rattle.shapes.specs.theorems.SplitLaws.{Distinct}
use Rattle.shapes.proofs.theorems.RobinsonFoulds.{new_where_distinct}
use Rattle.tree_check.specs.Table.{Table, tips, nodes, parent, node_of, beyond}
use Rattle.tree_check.specs.IsTree.{IsTree, Child}
use Rattle.tree_check.specs.theorems.RootedTables.{rooted}
use Rattle.counting.specs.Labels.{all}
use Rattle.counting.specs.SplitCounts.{beyond_at, splits, common_splits}
use Rattle.counting.specs.theorems.PassThrough.{NoPassThrough}
use Rattle.counting.proofs.theorems.TreeSplits.{child_above, labelled, zero_here}
use Rattle.counting.proofs.theorems.PassThroughNodes.{another_child}

module _ (t : Table) (g : IsTree t) (none : NoPassThrough t) where
  -- a label beyond i and not beyond a node j at or below its child w: one beyond another child d
  beside : (i j w d : ℕ) → Child t i w → bit (anc (parent t) w j) ≡ 1 → Child t i d → d ≢ w
      → (x : ℕ) × (x < tips t) × (bit (beyond t i x) ≡ 1) × (bit (beyond t j x) ≡ 0)
  unfolding beyond
  beside i j w d c h e n =
      let r = rooted t g in
      let x = labelled t g (nodes t) d e.node (omega arith) in
      let v = node_of t x.0 in (
        x.0,
        x.1,
        anc_trans (parent t) r i d v (child_above t g i d e) x.2,
        bit_no (anc (parent t) j v) (λ y.
            let a = anc_trans (parent t) r w j v h (bit-T (anc (parent t) j v) y) in
            n (one_child (parent t) r d w v e.other c.other (e.below ∙ sym c.below) x.2 a)),
      )

  -- fewer labels lie beyond a lower edge
  fewer : (i j : ℕ) → 1 ≤ i → i < j → j < nodes t → bit (anc (parent t) i j) ≡ 1
      → (x : ℕ) × (x < tips t) × (bit (beyond t i x) ≡ 1) × (bit (beyond t j x) ≡ 0)
  fewer i j l1 l lj h =
      let s = towards (parent t) (rooted t g) (nodes t - 1) i j (omega arith) (omega arith) h in
      let w = suc s.0 in
      let c : Child t i w = record { other = omega arith; node = omega (arith, s.1); below = s.2 } in
      let d = another_child t g i w l1 (omega arith) (none i (omega arith)) c in
      beside i j w d.0 c s.3 d.1 d.2

  lower_apart : (i j : ℕ) → 1 ≤ i → i < j → j < nodes t
      → ((x : ℕ) → x < tips t → beyond t i x ≡ beyond t j x) → ⊥
  unfolding beyond
  lower_apart i j l1 l lj h =
      let x = labelled t g (nodes t) i (omega arith) (omega arith) in
      let e = ap bit (h x.0 x.1) in
      let a = anc-line (parent t) (rooted t g) i j (node_of t x.0) (omega arith) x.2 (sym e ∙ x.2) in
      let y = fewer i j l1 l lj a in
      omega (arith, y.2, y.3, ap bit (h y.0 y.1))

  -- different edges, tip edges as well, have different tip sets
  pub edges_distinct : (i j : ℕ) → 1 ≤ i → i < nodes t → 1 ≤ j → j < nodes t
      → SameSides (tips t) (beyond t) (beyond t) i j → i ≡ j
  edges_distinct i j li mi lj mj (turned h) =
      let few = g.tips_range in
      let e = ap bit (h 0 (omega arith)) in
      omega (arith, zero_here t g i li, zero_here t g j lj, bit_not (beyond t j 0))
  edges_distinct i j li mi lj mj (same h) = elim (dec_lt i j) [
    | yes l ↦ absurd (lower_apart i j li l mj h)
    | no m ↦ elim (dec_lt j i) [
      | yes l ↦ absurd (lower_apart j i lj l mi (λ x lx. sym (h x lx)))
      | no n ↦ omega arith
    ]
  ]

  tree_distinct : Distinct (tips t) (nodes t - 1) (beyond t)
  tree_distinct i j s r h =
      edges_distinct i j s.above (omega (arith, s.edge, s.above)) r.above (omega (arith, r.edge, r.above)) h

  -- each edge with two tips or more on each side is a split of its own
  pub new_edge_lem : (i : ℕ) → i < nodes t - 1 → is_new_split (tips t) (beyond t) i ≡ is_split (tips t) (beyond t) (suc i)
  new_edge_lem = new_where_distinct (tips t) (nodes t - 1) (beyond t) tree_distinct

  -- the splits are the edges with two tips or more on each side
  pub splits_are_edges : splits (all (tips t)) t ≡ count (nodes t - 1) (λ i. is_split (tips t) (beyond t) (suc i))
  unfolding splits splits_of beyond_at
  splits_are_edges = sum_ext (nodes t - 1) _ _ (λ i l. ap bit (new_edge_lem i l))

  -- .. and the common ones those whose two tip sets the other tree has too
  pub common_are_edges : (u : Table) → common_splits (all (tips t)) t u
      ≡ count (nodes t - 1) (λ i. is_split (tips t) (beyond t) (suc i) && occurs (tips t) (beyond t) (nodes u - 1) (beyond u) (suc i))
  unfolding common_splits common_of beyond_at
  common_are_edges u = sum_ext (nodes t - 1) _ _
      (λ i l. ap (λ (b : Bool). bit (b && occurs (tips t) (beyond t) (nodes u - 1) (beyond u) (suc i))) (new_edge_lem i l))
