-- Codes of directed edges, and the one direction at a node that leads to another.
-- Assumes nothing.
use Rattle.std.specs.Prelude.{ℕ, ◌*◌}
use Rattle.sums.specs.Bits.{bit, is}
use Rattle.shapes.specs.Directions.{head, behind}

-- 1 if the code c points to v and has the node x behind it
abbrev pub into : (ℕ → ℕ) → ℕ → ℕ → ℕ → ℕ
into up v x c = is v (head up c) * bit (behind up c x)
