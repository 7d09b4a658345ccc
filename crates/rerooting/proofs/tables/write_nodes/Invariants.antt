-- The invariant: the words of the nodes before `v` are written.
-- Assumes nothing.
use Rattle.rerooting.specs.lemmas.Writing.{NodesWritten}
use Rattle.rerooting.proofs.tables.write_nodes.Given as goal

abbrev pub invariant-loop-v : goal.invariant-loop-v
invariant-loop-v l = NodesWritten l.table l.x l.v l.initial.out l.out
