-- The invariant: the rows of the nodes from `i` on have been added to their parents'.
-- Assumes nothing.
use Rattle.tree_pairs.specs.lemmas.RowsUp.{AddingRows}
use Rattle.tree_pairs.proofs.rows.add_rows.Given as goal

abbrev pub invariant-loop-i : goal.invariant-loop-i
invariant-loop-i l = AddingRows l.parents l.initial.work l.width l.i l.work
