-- Cells in rows: a row for each node but node 0 of the first tree, a column for each of the second.
-- Assumes nothing.
use Rattle.std.specs.Prelude.{List, ℕ, ◌+◌, ◌*◌, ◌-◌}
use Rattle.tree_check.specs.Table.{word}

-- in rows of w cells, the cell of node v of the first tree and column j
abbrev pub cell_at : List ℕ → ℕ → ℕ → ℕ → ℕ
cell_at work w v j = word work ((v - 1) * w + j)
