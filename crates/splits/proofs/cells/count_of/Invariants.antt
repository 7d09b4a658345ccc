-- The invariant: `total` counts the indices before `i` that pass.
-- Assumes nothing.
use mathlib.Core.Path.{◌≡◌}
use mathlib.Core.Bool.{Bool}
use Prim.Native.Nat.{ℕ, ◌≤◌, ◌<◌}
use Rattle.sums.specs.Counts.{count}
use Rattle.splits.proofs.cells.count_of.Given as goal

abbrev pub invariant-loop-i : goal.invariant-loop-i
invariant-loop-i g l = (l.total ≤ l.i)
    × ((q : ℕ → Bool) → ((i : ℕ) (b : Bool) → i < l.len → goal.F-post g l.test i b → b ≡ q i) → l.total ≡ count l.i q)
