-- The invariant: the nodes from `c` on are added to their parents.
-- Assumes nothing.
use Prim.Native.Nat.{◌≤◌}
use Rattle.canonical_copy.specs.lemmas.Staying.{SizesAre}
use Rattle.canonical_copy.proofs.branches.add_sizes.Given as goal

abbrev pub invariant-loop-c : goal.invariant-loop-c
invariant-loop-c l = (1 ≤ l.c) × SizesAre l.parents l.initial.sizes l.c l.sizes
