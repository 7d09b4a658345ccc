-- Two numbers that change places.
-- Assumes nothing.
use Rattle.std.specs.Prelude.{true, false, ℕ, eqb}

-- y for x, x for y, and any other number as it is
unfoldable pub swapped : ℕ → ℕ → ℕ → ℕ
swapped x y a = elim (eqb a x) [ true ↦ y | false ↦ elim (eqb a y) [ true ↦ x | false ↦ a ] ]
