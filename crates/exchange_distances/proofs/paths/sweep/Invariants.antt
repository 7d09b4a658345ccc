-- The invariant: the nodes before `i`, and those above p, have their cost.
-- Assumes nothing.
use Rattle.exchange_distances.specs.lemmas.WalkArrays.{Sweeping, Roomy}
use Rattle.exchange_distances.proofs.paths.sweep.Given as goal

abbrev pub invariant-loop-i : goal.invariant-loop-i
invariant-loop-i l = Sweeping l.n l.parents l.size l.square l.p l.i l.marks l.toward l.costs × Roomy l.marks l.toward l.costs
