-- The invariant: the rows of the nodes below `v` are written.
-- Assumes nothing.
use Rattle.tree_pairs.specs.lemmas.TipRows.{TipRows}
use Rattle.tree_pairs.proofs.rows_of_tips.tip_rows.Given as goal

abbrev pub invariant-loop-v : goal.invariant-loop-v
invariant-loop-v l = TipRows l.labels l.marks l.n l.width l.labelled l.begin l.end l.v l.initial.work l.work
