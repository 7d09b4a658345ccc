-- The invariant: the nodes below `v` have their ranks.
-- Assumes nothing.
use Rattle.canonical_copy.specs.lemmas.Ranks.{NodeRanks}
use Rattle.canonical_copy.proofs.ranks.node_ranks.Given as goal

abbrev pub invariant-loop-v : goal.invariant-loop-v
invariant-loop-v l = NodeRanks l.labels l.ranks l.k l.v l.at
