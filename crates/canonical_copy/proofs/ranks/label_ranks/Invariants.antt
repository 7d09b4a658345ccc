-- The invariant: the labels below `y` have their ranks.
-- Assumes nothing.
use Rattle.canonical_copy.specs.lemmas.Ranks.{RankedTo}
use Rattle.canonical_copy.proofs.ranks.label_ranks.Given as goal

abbrev pub invariant-loop-y : goal.invariant-loop-y
invariant-loop-y l = RankedTo l.marks l.x l.k l.y l.rank l.ranks
