-- The invariant: the nodes from `c` on are gathered into their parents.
-- Assumes nothing.
use Rattle.canonical_copy.proofs.lemmas.LeastBelow.{Gathered}
use Rattle.canonical_copy.proofs.branches.lower.Given as goal

abbrev pub invariant-loop-c : goal.invariant-loop-c
invariant-loop-c l = Gathered l.parents l.initial.lows l.c l.lows
