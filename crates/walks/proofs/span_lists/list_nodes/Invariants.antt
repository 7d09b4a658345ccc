-- The invariant: the cell of each label that stands before node `v` has the last node with that label.
-- Assumes nothing.
use Rattle.walks.specs.lemmas.SpanLists.{NodesListed}
use Rattle.walks.proofs.span_lists.list_nodes.Given as goal

abbrev pub invariant-loop-v : goal.invariant-loop-v
invariant-loop-v l = NodesListed l.labels l.n l.v l.initial.labelled l.labelled
