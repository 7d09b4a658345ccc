-- Three trees under the same marks, each two of them accepted: the triangle of their quartet distances, and of their weighted
-- distances with k from 128 on, as the calls answer them.
-- Assumes nothing.
use Rattle.std.specs.Prelude.{false, ℕ, ◌+◌, ◌≤◌, T, Float}
use Rattle.std.specs.Float.{binary64}
use Rattle.std.specs.Float.Ieee.{add, le}
use Rattle.std.specs.Float.Ieee.Exact.{HasValue}

-- three floats d, e and f, which are a/256, b/256 and c/256: the third is at most the sum of the others, which is exact
pub record ExactTriangle (a b c : ℕ) (d e f : Float) : Type 0 where
  pub first_value : HasValue d false a 256
  pub second_value : HasValue e false b 256
  pub third_value : HasValue f false c 256
  pub sum_value : HasValue (add binary64 d e) false (a + b) 256
  pub numbers : c ≤ a + b
  pub floats : T (le f (add binary64 d e))
