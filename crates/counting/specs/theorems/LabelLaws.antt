-- Labels by rank: different ranks have different labels.
-- Assumes nothing.
use Rattle.std.specs.Prelude.{ℕ, ◌<◌}
use Rattle.counting.specs.Labels.{Labels}

-- labels below n, in rising order
pub record Rising (n : ℕ) (l : Labels) : Type 0 where
  pub inside : (x : ℕ) → x < l.number → l.at x < n
  pub rises : (x y : ℕ) → x < y → y < l.number → l.at x < l.at y
