-- The orders of refusal of the walk and of the part beyond an edge (docs/SPECIFICATION.md, 'The numbers', 'The orders').
-- Assumes nothing.
use Rattle.std.specs.Prelude.{ℕ, ◌||◌, List, [], ◌∷◌, ◌++◌, ◌==◌, nat_le, nat_lt}
use Rattle.tree_check.specs.Table.{Table, tips, nodes}
use Rattle.tree_check.specs.Refusals.{Rule}
use Rattle.tree_check.specs.TreeOrder.{tree_order}

-- 12: the lent walk has fewer than n cells
abbrev pub room_order : ℕ → ℕ → List Rule
room_order cells n = (12, nat_lt cells n) ∷ []

-- the table's order, then 12
unfoldable pub walk_order : Table → ℕ → List Rule
walk_order t cells = tree_order t ++ room_order cells (tips t)

-- the table's order, then 13: the edge is 0, or m or more; then 12
unfoldable pub edge_order : Table → ℕ → ℕ → List Rule
edge_order t i cells = tree_order t ++ (13, (i == 0) || nat_le (nodes t) i) ∷ room_order cells (tips t)
