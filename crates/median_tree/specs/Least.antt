-- The earliest position with the least value (docs/SPECIFICATION.md, 'The median tree').
-- Assumes nothing.
use Rattle.std.specs.Prelude.{true, false, ℕ, zero, suc, ltb}

-- of the positions below k
unfoldable pub first_least : (ℕ → ℕ) → ℕ → ℕ
first_least f zero = 0
first_least f (suc k) = elim (ltb (f k) (f (first_least f k))) [ true ↦ k | false ↦ first_least f k ]
