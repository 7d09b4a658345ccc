-- The invariant: the rounds before that of rank `x` are made.
-- Assumes nothing.
use Rattle.canonical_copy.specs.lemmas.Numbering.{Going}
use Rattle.canonical_copy.proofs.numbers.numbers.Given as goal

abbrev pub invariant-loop-x : goal.invariant-loop-x
invariant-loop-x l = Going l.parents l.sizes l.bits l.heads l.nexts l.x l.numbers l.frees
