-- The invariant: the cells before `v` have the square of the labels that are not below their node.
-- Assumes nothing.
use Rattle.exchange_distances.specs.lemmas.SquareLoops.{RestSquared}
use Rattle.exchange_distances.proofs.arrays.square_rest.Given as goal

abbrev pub invariant-loop-v : goal.invariant-loop-v
invariant-loop-v l = RestSquared l.n l.size l.v l.square
