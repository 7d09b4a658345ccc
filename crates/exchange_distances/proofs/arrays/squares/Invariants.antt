-- The invariant: the labels of the nodes before `i` are added to their parents.
-- Assumes nothing.
use Rattle.exchange_distances.specs.lemmas.SquareLoops.{Adding}
use Rattle.exchange_distances.proofs.arrays.squares.Given as goal

abbrev pub invariant-loop-i : goal.invariant-loop-i
invariant-loop-i l = Adding l.n l.parents l.size l.i l.square
