-- How many claims a directed edge of a tree table is in.
-- Assumes nothing.
use Rattle.std.specs.Prelude.{ℕ, ◌-◌}
use Rattle.shapes.specs.Directions.{head}
use Rattle.shapes.specs.theorems.ClaimsOfAnEdge.{degree}
use Rattle.tree_check.specs.Table.{Table, nodes, parent}

-- how many edges the node v has
unfoldable pub node_degree : Table → ℕ → ℕ
node_degree t v = degree (parent t) (nodes t - 1) v

-- the node that the directed edge with the code c points to
abbrev pub head_of : Table → ℕ → ℕ
head_of t c = head (parent t) c
