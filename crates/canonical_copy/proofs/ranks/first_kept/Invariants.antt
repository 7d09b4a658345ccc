-- The invariant: no label below `x` is kept.
-- Assumes nothing.
use mathlib.Core.Path.{◌≡◌}
use Prim.Native.Nat.{ℕ, ◌<◌}
use mathlib.Core.Bool.{false}
use Rattle.marks.specs.Marks.{is_kept}
use Rattle.canonical_copy.proofs.ranks.first_kept.Given as goal

abbrev pub invariant-loop-x : goal.invariant-loop-x
invariant-loop-x l = (j : ℕ) → j < l.x → is_kept l.marks j ≡ false
