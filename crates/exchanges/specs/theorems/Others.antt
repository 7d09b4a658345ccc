-- Sums over tuples of labels, parted by where x and y stand in them.
-- Assumes nothing.
use Rattle.std.specs.Prelude.{◌≢◌, ℕ, ◌*◌, ◌<◌}
use Rattle.sums.specs.Sum.{sum}
use Rattle.sums.specs.theorems.BitLaws.{ne}

-- the sum of f over the numbers below n other than x and y
unfoldable pub sum_of_others : ℕ → ℕ → ℕ → (ℕ → ℕ) → ℕ
sum_of_others n x y f = sum n (λ a. ne x a * (ne y a * f a))

-- x and y are different numbers below n
pub record Two (n x y : ℕ) : Type 0 where
  pub lx : x < n
  pub ly : y < n
  pub xy : x ≢ y

-- a is another
pub record Other (n x y a : ℕ) : Type 0 where
  pub la : a < n
  pub xa : x ≢ a
  pub ya : y ≢ a

unfoldable pub others2 : ℕ → ℕ → ℕ → (ℕ → ℕ → ℕ) → ℕ
others2 n x y f = sum_of_others n x y (λ a. sum_of_others n x y (f a))

unfoldable pub others3 : ℕ → ℕ → ℕ → (ℕ → ℕ → ℕ → ℕ) → ℕ
others3 n x y f = sum_of_others n x y (λ a. others2 n x y (f a))

unfoldable pub others4 : ℕ → ℕ → ℕ → (ℕ → ℕ → ℕ → ℕ → ℕ) → ℕ
others4 n x y f = sum_of_others n x y (λ a. others3 n x y (f a))
