-- The invariant: the trees before `i` are summed among one another.
-- Assumes nothing.
use Rattle.median_tree.specs.Nearest.{list_cells}
use Rattle.median_tree.specs.Nearest.{distance_of}
use Rattle.median_tree.specs.lemmas.SameCells.{SameFrom}
use Rattle.median_tree.specs.lemmas.RowSums.{Sums}
use Rattle.median_tree.proofs.summed.all_sums.Given as goal

abbrev pub invariant-loop-i : goal.invariant-loop-i
invariant-loop-i l = Sums (distance_of l.list) l.i 0 l.sums × SameFrom (list_cells l.list) l.initial.work l.work
