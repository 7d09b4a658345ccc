-- The invariant: the nodes from `v` on are chained.
-- Assumes nothing.
use Prim.Native.Nat.{◌≤◌}
use Rattle.canonical_copy.specs.lemmas.Chains.{Chainable, ChainsAre}
use Rattle.canonical_copy.proofs.numbers.chain.Given as goal

abbrev pub invariant-loop-v : goal.invariant-loop-v
invariant-loop-v l = (1 ≤ l.v) × Chainable l.lows l.m l.initial.heads l.initial.nexts × ChainsAre l.lows l.m l.v l.heads l.nexts
