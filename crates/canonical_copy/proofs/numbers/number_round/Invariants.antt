-- The invariant: the nodes of rank `x` before `v` have their numbers.
-- Assumes nothing.
use Prim.Native.Nat.{◌-◌}
use lib.ListN.{length}
use Rattle.canonical_copy.specs.lemmas.Numbering.{NumberingTurn}
use Rattle.canonical_copy.proofs.numbers.number_round.Given as goal

abbrev pub invariant-loop-v : goal.invariant-loop-v
invariant-loop-v l = NumberingTurn l.parents l.sizes l.bits l.heads l.nexts l.x l.v l.numbers l.frees

abbrev pub decreases-loop-v : goal.decreases-loop-v
decreases-loop-v l = length l.parents - l.v
