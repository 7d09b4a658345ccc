-- The invariant: tree `i` is summed against the trees before `j`, on both sides.
-- Assumes nothing.
use Rattle.median_tree.specs.Nearest.{list_cells}
use Rattle.median_tree.specs.Nearest.{distance_of}
use Rattle.median_tree.specs.lemmas.SameCells.{SameFrom}
use Rattle.median_tree.specs.lemmas.RowSums.{Sums}
use Rattle.median_tree.proofs.summed.add_row.Given as goal

abbrev pub invariant-loop-j : goal.invariant-loop-j
invariant-loop-j l = Sums (distance_of l.list) l.i l.j l.sums × SameFrom (list_cells l.list) l.initial.work l.work
