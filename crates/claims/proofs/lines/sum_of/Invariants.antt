-- The invariant: `s` is the sum of what is given before place `a`.
-- Assumes nothing.
use mathlib.Core.Path.{◌≡◌}
use Prim.Native.Nat.{ℕ, ◌*◌, ◌<◌, ◌≤◌}
use Rattle.sums.specs.Sum.{sum}
use Rattle.claims.proofs.lines.sum_of.Given as goal

abbrev pub invariant-loop-a : goal.invariant-loop-a
invariant-loop-a g l = (l.s ≤ l.a * 4294967296)
    × ((f : ℕ → ℕ) → ((a n : ℕ) → a < l.len → goal.F-post g l.term a n → n ≡ f a) → l.s ≡ sum l.a f)
