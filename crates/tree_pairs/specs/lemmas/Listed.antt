-- Values of the nodes but node 0, listed node by node in an array that has a cell for each.
-- Assumes nothing.
use Rattle.std.specs.Prelude.{◌≡◌, List, ℕ, ◌*◌, ◌-◌, ◌≤◌, ◌<◌, length}
use Rattle.table_words.specs.Sizes.{node_room}
use Rattle.tree_check.specs.Table.{word}

-- the values of the nodes below k
pub record ListedNodes (value : ℕ → ℕ) (k : ℕ) (cells : List ℕ) : Type 0 where
  pub long : length cells ≡ node_room
  pub at : (v : ℕ) → 1 ≤ v → v < k → word cells v ≡ value v

-- where node v's row begins, in rows of w cells
abbrev pub row_start : ℕ → ℕ → ℕ
row_start w v = (v - 1) * w
