-- How many indices below n pass a test, and two different ones that do.
-- Assumes nothing.
use Rattle.std.specs.Prelude.{Bool, ℕ, ◌<◌, T}
use Rattle.sums.specs.Sum.{sum}
use Rattle.sums.specs.Bits.{bit}

abbrev pub count : ℕ → (ℕ → Bool) → ℕ
count n q = sum n (λ i. bit (q i))

-- two different indices below n pass
abbrev pub Twice : ℕ → (ℕ → Bool) → Type 0
Twice n q = (i : ℕ) × (j : ℕ) × (i < j) × (j < n) × T (q i) × T (q j)
