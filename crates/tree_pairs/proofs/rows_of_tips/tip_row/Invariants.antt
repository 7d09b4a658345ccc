-- The invariant: the cells before column `j` are filled.
-- Assumes nothing.
use Rattle.tree_pairs.specs.lemmas.TipRows.{RowFilled, in_spans}
use Rattle.tree_pairs.proofs.rows_of_tips.tip_row.Given as goal

abbrev pub invariant-loop-j : goal.invariant-loop-j
invariant-loop-j l = RowFilled (in_spans l.begin l.end l.at) l.base l.j l.initial.work l.work
