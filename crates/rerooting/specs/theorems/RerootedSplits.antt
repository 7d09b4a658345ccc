-- A re-rooted table has the splits that there were, among any labels, 0 and x exchanged.
-- Assumes nothing.
use Rattle.std.proofs.Common.{sym}
use Rattle.std.specs.Prelude.{ℕ, ◌-◌, ◌<◌}
use native.Mathlib.Omega.{arith}
use Rattle.sums.specs.Swaps.{swapped}
use Rattle.sums.specs.theorems.BitLaws.{bit_inj, bit_not}
use Rattle.shapes.specs.Splits.{Sides, SameSides, same, turned, SameSplits}
use Rattle.shapes.proofs.theorems.SplitLaws.{split_moves}
use Rattle.shapes.proofs.theorems.RerootedSides.{SameEdge, kept, reversed, edge_there, edge_back}
use Rattle.tree_check.specs.Table.{Table, tips, nodes, parent, node_of, beyond}
use Rattle.tree_check.specs.IsTree.{IsTree}
use Rattle.tree_check.specs.theorems.RootedTables.{rooted}
use Rattle.walks.specs.theorems.NodeLabels.{node_at}
use Rattle.counting.specs.Labels.{Labels}
use Rattle.counting.specs.SplitCounts.{beyond_at}
use Rattle.counting.specs.theorems.LabelLaws.{Rising}
use Rattle.rerooting.specs.Rerooted.{rerooted}
use Rattle.rerooting.specs.theorems.RerootedTopology.{side_kept, side_reversed}

-- the labels that are counted, 0 and x exchanged
abbrev pub exchanged_labels : ℕ → Labels → Labels
exchanged_labels x l = record { number = l.number; at = λ i. swapped 0 x (l.at i) }

module _ (t : Table) (g : IsTree t) (x : ℕ) (lx : x < tips t) (l : Labels) (r : Rising (tips t) l) where
  abbrev was : Sides
  was = beyond_at l t

  abbrev now' : Sides
  now' = beyond_at (exchanged_labels x l) (rerooted t x)

  abbrev Same : ℕ → ℕ → Type 0
  Same i j = SameEdge (parent t) (nodes t) (node_of t x) (rooted t g) (node_at t g x lx).0 i j

  there : (i j : ℕ) → Same i j → SameSides l.number was now' i j
  unfolding beyond_at beyond
  there i j (kept h) = same (λ y m. bit_inj _ _ (sym (side_kept t g x lx i j h (l.at y) (r.inside y m))))
  there i j (reversed h) = turned (λ y m. bit_inj _ _ (omega (
    arith,
    side_reversed t g x lx i j h (l.at y) (r.inside y m),
    bit_not (beyond_at (exchanged_labels x l) (rerooted t x) j y),
  )))

  back : (i j : ℕ) → Same i j → SameSides l.number now' was j i
  unfolding beyond_at beyond
  back i j (kept h) = same (λ y m. bit_inj _ _ (side_kept t g x lx i j h (l.at y) (r.inside y m)))
  back i j (reversed h) = turned (λ y m. bit_inj _ _ (omega (
    arith,
    side_reversed t g x lx i j h (l.at y) (r.inside y m),
    bit_not (beyond_at l t i y),
  )))

  pub rerooted-splits : SameSplits l.number (nodes t - 1) (beyond_at l t) (nodes t - 1) (beyond_at (exchanged_labels x l) (rerooted t x))
  rerooted-splits = record {
    there = λ i s.
        let e = edge_there (parent t) (nodes t) (node_of t x) (rooted t g) (node_at t g x lx).0 i s.above (omega (arith, s.edge, s.above)) in
        let d = there i e.0 e.3 in
        (e.0, split_moves {b = was} {c = now'} e.1 (omega (arith, e.1, e.2)) s d, d);
    back = λ j s.
        let e = edge_back (parent t) (nodes t) (node_of t x) (rooted t g) (node_at t g x lx).0 j s.above (omega (arith, s.edge, s.above)) in
        let d = back e.0 j e.3 in
        (e.0, split_moves {b = now'} {c = was} e.1 (omega (arith, e.1, e.2)) s d, d);
  }
