-- Tests over ranges: some index below n passes, or every one; the first that does.
-- Assumes nothing.
use Rattle.std.specs.Prelude.{Bool, true, false, ℕ, zero, suc}

-- ---- some and every index below n

unfoldable pub some : ℕ → (ℕ → Bool) → Bool
some zero q = false
some (suc n) q = elim (q n) [ true ↦ true | false ↦ some n q ]

unfoldable pub every : ℕ → (ℕ → Bool) → Bool
every zero q = true
every (suc n) q = elim (q n) [ true ↦ every n q | false ↦ false ]

-- the first index below n that passes, or n where none does
unfoldable pub first : ℕ → (ℕ → Bool) → ℕ
first zero q = 0
first (suc n) q = elim (q 0) [ true ↦ 0 | false ↦ suc (first n (λ i. q (suc i))) ]
