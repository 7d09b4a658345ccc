-- The invariant: the rows of the nodes below `v` are listed.
-- Assumes nothing.
use Rattle.tree_pairs.specs.lemmas.Listed.{ListedNodes, row_start}
use Rattle.tree_pairs.proofs.rows.row_starts.Given as goal

abbrev pub invariant-loop-v : goal.invariant-loop-v
invariant-loop-v l = ListedNodes (row_start l.width) l.v l.starts
