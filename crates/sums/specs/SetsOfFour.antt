-- Sums over the sets of two, three and four numbers below n.
-- Assumes nothing.
use Rattle.std.specs.Prelude.{ℕ}
use Rattle.sums.specs.Sum.{sum}

-- ---- sets, each taken once, in rising order: w < x < y < z

unfoldable pub sets2 : ℕ → (ℕ → ℕ → ℕ) → ℕ
sets2 n f = sum n (λ y. sum y (λ x. f x y))

unfoldable pub sets3 : ℕ → (ℕ → ℕ → ℕ → ℕ) → ℕ
sets3 n f = sum n (λ z. sets2 z (λ x y. f x y z))

unfoldable pub sets4 : ℕ → (ℕ → ℕ → ℕ → ℕ → ℕ) → ℕ
sets4 n f = sum n (λ z. sets3 z (λ w x y. f w x y z))
