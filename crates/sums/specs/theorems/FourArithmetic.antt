-- The number of sets of four, computed: for each k from 0 to 256 the value is right, nothing wraps in 32 bits, and the division
-- leaves nothing over.
-- Assumes nothing.
use Rattle.std.specs.Prelude.{◌≡◌, refl, ℕ, ◌*◌, ◌-◌, ◌/◌, ◌≤◌}
use Rattle.std.proofs.Common.{sym, arith}
use Rattle.sums.specs.Fours.{fours}
use Rattle.sums.specs.theorems.FoursLaws.{sets_of_four, fours-count, fours_exact}
use Rattle.sums.specs.theorems.Products.{product_le}

pub record FourArithmetic (k : ℕ) : Type 0 where
  -- the value is the number of subsets with four elements
  pub value : k * (k - 1) * (k - 2) * (k - 3) / 24 ≡ sets_of_four k
  -- no product is above 32 bits
  pub first_product : k * (k - 1) ≤ 65280
  pub second_product : k * (k - 1) * (k - 2) ≤ 16581120
  pub third_product : k * (k - 1) * (k - 2) * (k - 3) ≤ 4195023360
  -- the division leaves nothing over
  pub exact : 24 * (k * (k - 1) * (k - 2) * (k - 3) / 24) ≡ k * (k - 1) * (k - 2) * (k - 3)

pub four_arithmetic : (k : ℕ) → k ≤ 256 → FourArithmetic k
unfolding fours
four_arithmetic k l = record {
  value = sym (fours-count k);
  first_product = one;
  second_product = two;
  third_product = product_le 16581120 253 (k * (k - 1) * (k - 2)) (k - 3) two (omega arith);
  exact = fours_exact k;
}
  where
    one : k * (k - 1) ≤ 65280
    one = product_le 256 255 k (k - 1) l (omega arith)

    two : k * (k - 1) * (k - 2) ≤ 16581120
    two = product_le 65280 254 (k * (k - 1)) (k - 2) one (omega arith)

-- at 256, the most labels
pub four_of_256 : 256 * (256 - 1) * (256 - 2) * (256 - 3) / 24 ≡ 174792640
four_of_256 = refl
