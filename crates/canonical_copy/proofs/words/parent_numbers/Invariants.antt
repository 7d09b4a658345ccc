-- The invariant: the nodes below `v` have the numbers above them.
-- Assumes nothing.
use Rattle.canonical_copy.specs.lemmas.ParentNumbers.{ParentNumbers}
use Rattle.canonical_copy.proofs.words.parent_numbers.Given as goal

abbrev pub invariant-loop-v : goal.invariant-loop-v
invariant-loop-v l = ParentNumbers l.parents l.bits l.numbers l.v l.above
