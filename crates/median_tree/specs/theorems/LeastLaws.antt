-- No position has a smaller value than the first least one, and every earlier one has a larger.
-- Assumes nothing.
use Rattle.std.specs.Prelude.{ℕ, ◌≤◌, ◌<◌}

-- p is a position below k, no position has a smaller value, and each earlier one has a larger
pub record IsFirstLeast (f : ℕ → ℕ) (k p : ℕ) : Type 0 where
  pub position : p < k
  pub least : (i : ℕ) → i < k → f p ≤ f i
  pub earliest : (i : ℕ) → i < p → f p < f i
