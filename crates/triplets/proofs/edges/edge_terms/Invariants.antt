-- The invariant: `total` is what the edges before row `i + 1` add.
-- Assumes nothing.
use mathlib.Core.Path.{◌≡◌}
use Prim.Native.Nat.{◌+◌}
use Rattle.sums.specs.Sum.{sum}
use Rattle.shapes.specs.theorems.TripletCounts.{edge_term}
use Rattle.tree_pairs.specs.lemmas.EdgeRows.{above_in, row_size}
use Rattle.triplets.proofs.edges.edge_terms.Given as goal

abbrev pub invariant-loop-i : goal.invariant-loop-i
invariant-loop-i l = l.total ≡ sum l.i (λ j. edge_term (row_size l.work l.step (j + 1)) (row_size l.work l.step (above_in l.parents (j + 1))))
