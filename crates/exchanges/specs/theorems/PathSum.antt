-- The distance after an exchange from one sum along the path: over the directed edges from y towards x, each with what
-- its head takes.
-- Assumes nothing.
use Rattle.std.specs.Prelude.{ℕ, ◌+◌, ◌*◌, ◌-◌}
use Rattle.shapes.specs.Directions.{behind}

-- what a node of the path takes: n labels, e of them behind the edge from x, f behind the edge from y, and q the squares
unfoldable pub cost : ℕ → ℕ → ℕ → ℕ → ℕ
cost n e f q =
    2 * ((n - e - f) * ((n - e - f) * (n - e - f))) + 3 * ((n - e - f) * (n - e - f))
    + 6 * ((q - e * e - f * f) * (e + f - 2))
