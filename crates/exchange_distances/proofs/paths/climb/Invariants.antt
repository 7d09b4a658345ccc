-- The invariant: the nodes from `v` on that are above p are marked and have their cost.
-- Assumes nothing.
use Rattle.exchange_distances.specs.lemmas.WalkArrays.{Climbing, Roomy}
use Rattle.exchange_distances.proofs.paths.climb.Given as goal

abbrev pub invariant-loop-v : goal.invariant-loop-v
invariant-loop-v l = Climbing l.n l.parents l.size l.square l.p l.v l.marks l.toward l.costs × Roomy l.marks l.toward l.costs

abbrev pub decreases-loop-v : goal.decreases-loop-v
decreases-loop-v l = l.v
