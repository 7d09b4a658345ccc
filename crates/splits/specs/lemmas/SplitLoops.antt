-- Splits counted in cells, row by row and column by column.
-- Assumes nothing.
use Rattle.std.specs.Prelude.{List, ℕ, ◌+◌, ◌*◌, ◌-◌, ◌≤◌, length}
use Rattle.table_words.specs.Sizes.{node_room}
use Rattle.table_words.specs.lemmas.Rooms.{work_room}

-- `cells` cells hold the rows
pub record RowsRoom (cells width : ℕ) (ps : List ℕ) : Type 0 where
  pub some : 1 ≤ width
  pub rows : (length ps - 1) * width ≤ cells

-- `cells` cells hold the row that begins at `base`
pub record SplitRowRoom (cells base width : ℕ) : Type 0 where
  pub low : base ≤ work_room
  pub narrow : width ≤ node_room
  pub inside : base + width ≤ cells
