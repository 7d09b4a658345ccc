-- The invariant: the first `cell-index` cells are what is given for their lines, and line `cell-index` begins at `at`.
-- Assumes nothing.
use mathlib.Core.Path.{◌≡◌}
use Prim.Native.Nat.{ℕ, ◌*◌, ◌<◌}
use Rattle.claims.specs.lemmas.Filled.{filled_to}
use Rattle.claims.proofs.lines.fill_lines.Given as goal

abbrev pub invariant-loop-cell : goal.invariant-loop-cell
invariant-loop-cell g l = (l.at ≡ l.cell-index * l.gap)
    × ((h : ℕ → ℕ) → ((i n : ℕ) → i < l.lines → goal.F-post g l.of (i * l.gap) n → n ≡ h i)
    → l.cell-items ≡ filled_to h l.cell-index l.initial.cell-items)
