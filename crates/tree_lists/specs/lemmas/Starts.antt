-- Where the tables of a list start, listed, and the tables as they are lent.
-- Assumes nothing.
use Rattle.std.specs.Prelude.{◌≡◌, List, ℕ, ◌≤◌, ◌<◌, length}
use Rattle.tree_check.specs.Table.{word}
use Rattle.tree_lists.specs.TreeLists.{start_of}

-- the starts of the tables up to i, where table i starts, and zeros
pub record TableStarts (list : List ℕ) (i : ℕ) (cells : List ℕ) : Type 0 where
  pub long : length cells ≡ 17
  pub at : (j : ℕ) → j ≤ i → word cells j ≡ start_of list j
  pub later : (j : ℕ) → i < j → word cells j ≡ 0
