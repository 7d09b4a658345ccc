-- The invariant: the nodes below `i` are left to be added.
-- Assumes nothing.
use Rattle.walks.specs.lemmas.Adding.{Left}
use Rattle.walks.proofs.sizes.add_up.Given as goal

abbrev pub invariant-loop-i : goal.invariant-loop-i
invariant-loop-i l = Left l.parents l.initial.cells l.i l.cells
