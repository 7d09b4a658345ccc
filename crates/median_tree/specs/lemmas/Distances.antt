-- The distance of two trees with every label kept, as code finds it, and of two trees of a list.
-- Assumes nothing.
use Rattle.std.specs.Prelude.{◌≡◌, List, ℕ, ◌≤◌, length}
use Rattle.tree_check.specs.Table.{tips}
use Rattle.tree_lists.specs.TreeLists.{trees_of, tree_at}
use Rattle.tree_lists.specs.theorems.ListCheck.{IsTreeList}
use Rattle.tree_lists.specs.lemmas.Starts.{TableStarts}
use Rattle.median_tree.specs.Nearest.{list_cells}

-- a list that is ready to be summed: its starts, its n, and cells enough
pub record ListReady (list starts : List ℕ) (n cells : ℕ) : Type 0 where
  pub list_is : IsTreeList list
  pub has_word : 1 ≤ length list
  pub starts_are : TableStarts list (trees_of list) starts
  pub tips_is : n ≡ tips (tree_at list 0)
  pub room : list_cells list ≤ cells
