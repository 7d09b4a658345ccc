-- One row of cells added to another, earlier one.
-- Assumes nothing.
use Rattle.std.specs.Prelude.{◌≡◌, List, ℕ, ◌+◌, ◌≤◌, ◌<◌, length}
use Rattle.table_words.specs.Sizes.{cell_most, node_room}
use Rattle.table_words.specs.lemmas.Rooms.{work_room}
use Rattle.tree_check.specs.Table.{word}

-- the rows of w cells that begin at `to` and `from` lie apart and inside, and their sums fit a cell
pub record RowsFit (work : List ℕ) (to from w : ℕ) : Type 0 where
  pub apart : to + w ≤ from
  pub inside : from + w ≤ length work
  pub near : from ≤ work_room
  pub narrow : w ≤ node_room
  pub fits : (j : ℕ) → j < w → word work (to + j) + word work (from + j) ≤ cell_most

-- the first n cells of one row have been added to the other
pub record RowAdded (old new : List ℕ) (to from n : ℕ) : Type 0 where
  pub long : length new ≡ length old
  pub sums : (j : ℕ) → j < n → word new (to + j) ≡ word old (to + j) + word old (from + j)
  pub before : (c : ℕ) → c < to → word new c ≡ word old c
  pub after : (c : ℕ) → to + n ≤ c → word new c ≡ word old c

-- .. of the w cells that the rows have
pub record AddingRow (old : List ℕ) (to from w n : ℕ) (new : List ℕ) : Type 0 where
  pub at : n ≤ w
  pub added : RowAdded old new to from n
