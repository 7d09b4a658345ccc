-- Sums over the cells of a grid: over rows, and in each row over columns.
-- Assumes nothing.
use Rattle.std.specs.Prelude.{◌≡◌, ℕ, ◌+◌, ◌*◌}
use Rattle.std.proofs.Common.{sym, ◌∙◌}
use Rattle.sums.specs.Sum.{sum}
use Rattle.sums.specs.theorems.SumLaws.{sum_cong, sum-add, sum-mul_left, sum-swap}

pub grid_add : (m n : ℕ) (f g : ℕ → ℕ → ℕ)
    → sum m (λ i. sum n (λ j. f i j + g i j)) ≡ sum m (λ i. sum n (f i)) + sum m (λ i. sum n (g i))
grid_add m n f g = sum_cong m (λ i. sum-add n (f i) (g i)) ∙ sum-add m _ _

pub grid_mul_left : (m n c : ℕ) (f : ℕ → ℕ → ℕ)
    → sum m (λ i. sum n (λ j. c * f i j)) ≡ c * sum m (λ i. sum n (f i))
grid_mul_left m n c f = sum_cong m (λ i. sum-mul_left n c (f i)) ∙ sum-mul_left m c _

-- a third sum comes out first
pub grid_sum : (m n k : ℕ) (c : ℕ → ℕ → ℕ) (f : ℕ → ℕ → ℕ → ℕ)
    → sum m (λ i. sum n (λ j. c i j * sum k (f i j)))
    ≡ sum k (λ x. sum m (λ i. sum n (λ j. c i j * f i j x)))
grid_sum m n k c f =
    sum_cong m (λ i.
    sum_cong n (λ j. sym (sum-mul_left k (c i j) (f i j)))
    ∙ sum-swap n k (λ j x. c i j * f i j x))
    ∙ sum-swap m k (λ i x. sum n (λ j. c i j * f i j x))
