-- The invariant: no edge before row `k` is the other half.
-- Assumes nothing.
use Prim.Native.Nat.{ℕ, ◌<◌}
use mathlib.Core.Path.{◌≡◌}
use mathlib.Core.Bool.{false}
use Rattle.splits.specs.lemmas.SplitCells.{half_row}
use Rattle.splits.proofs.cells.has_half.Given as goal

abbrev pub invariant-loop-k : goal.invariant-loop-k
invariant-loop-k l = (j : ℕ) → j < l.k → half_row l.kept l.work l.step l.parents l.row j ≡ false
