-- The invariant: p is no j/256 for a j below k.
-- Assumes nothing.
use mathlib.Core.Path.{◌≡◌}
use mathlib.Core.Bool.{false}
use Prim.Native.Nat.{ℕ, ◌<◌}
use lib.Ieee.{eq}
use Rattle.weights.specs.Weights.{over256}
use Rattle.weights.proofs.weight.numerator_of.Given as goal

abbrev pub invariant-loop-k : goal.invariant-loop-k
invariant-loop-k l = (j : ℕ) → j < l.k → eq l.p (over256 j) ≡ false
