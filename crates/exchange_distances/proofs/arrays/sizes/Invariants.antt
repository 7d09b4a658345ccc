-- The invariant: the nodes before `v` have their sizes.
-- Assumes nothing.
use Rattle.exchange_distances.specs.lemmas.SpanSizes.{SpanSizes}
use Rattle.exchange_distances.proofs.arrays.sizes.Given as goal

abbrev pub invariant-loop-v : goal.invariant-loop-v
invariant-loop-v l = SpanSizes l.n l.v l.begin l.end l.size
