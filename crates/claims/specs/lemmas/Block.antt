-- The block of the cells of two nodes: rows of cells in a slice.
-- Assumes nothing.
use Rattle.std.specs.Prelude.{List, ℕ, ◌+◌, ◌*◌, ◌≤◌, length}
use Rattle.table_words.specs.Sizes.{tips_most}
use Rattle.tree_check.specs.Table.{word}
use Rattle.node_pairs.specs.theorems.Aggregates.{whole}

-- the cell in row i and column j of rows of w cells
abbrev pub block_cell : List ℕ → ℕ → ℕ → ℕ → ℕ
block_cell cells w i j = word cells (i * w + j)

-- at most 256 rows and columns, cells that add up to 256 at most
pub record Block (cells : List ℕ) (d d' : ℕ) : Type 0 where
  pub rows_few : d ≤ tips_most
  pub columns_few : d' ≤ tips_most
  pub inside : d * d' ≤ length cells
  pub whole_few : whole d d' (block_cell cells d') ≤ tips_most

-- five lent slices with room for the sums of a block
pub record Scratch (sums totals down along dots : List ℕ) : Type 0 where
  pub sums_long : tips_most ≤ length sums
  pub totals_long : tips_most ≤ length totals
  pub down_long : tips_most ≤ length down
  pub along_long : tips_most ≤ length along
  pub dots_long : tips_most ≤ length dots
