-- The invariant: the nodes below `v` have their bits.
-- Assumes nothing.
use Rattle.canonical_copy.specs.lemmas.Staying.{StayBits}
use Rattle.canonical_copy.proofs.branches.stay_bits.Given as goal

abbrev pub invariant-loop-v : goal.invariant-loop-v
invariant-loop-v l = StayBits l.ranks l.branches l.k l.v l.bits
