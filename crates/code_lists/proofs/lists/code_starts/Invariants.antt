-- The invariant: the counts of the nodes before `v` are added up to `at`.
-- Assumes nothing.
use Rattle.code_lists.specs.lemmas.CodeCounts.{AddedStarts}
use Rattle.code_lists.proofs.lists.code_starts.Given as goal

abbrev pub invariant-loop-v : goal.invariant-loop-v
invariant-loop-v l = AddedStarts l.parents l.initial.starts l.v l.at l.next l.starts
