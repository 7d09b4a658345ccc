-- How many sets of four there are: k(k − 1)(k − 2)(k − 3)/24, for every k.
-- Assumes nothing.
use Rattle.std.specs.Prelude.{ℕ, ◌*◌, ◌-◌, ◌/◌}

-- all sets of four of k labels
unfoldable pub fours : ℕ → ℕ
fours k = k * (k - 1) * (k - 2) * (k - 3) / 24
