-- The invariant: the cells before column `j` have been added.
-- Assumes nothing.
use Rattle.tree_pairs.specs.lemmas.Rows.{AddingRow}
use Rattle.tree_pairs.proofs.rows.add_row.Given as goal

abbrev pub invariant-loop-j : goal.invariant-loop-j
invariant-loop-j l = AddingRow l.initial.work l.to l.from l.width l.j l.work
