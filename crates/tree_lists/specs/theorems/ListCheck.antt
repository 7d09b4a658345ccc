-- The order of a list accepts exactly the lists of 2 to 16 tree tables with the same n.
-- Assumes nothing.
use Rattle.std.specs.Prelude.{◌≡◌, List, ℕ, ◌≤◌, ◌<◌, length}
use Rattle.tree_check.specs.Table.{tips}
use Rattle.tree_check.specs.IsTree.{IsTree}
use Rattle.tree_lists.specs.TreeLists.{trees_most, trees_of, start_of, tree_at}

-- 2 to 16 tree tables with the same n, and no word more
pub record IsTreeList (list : List ℕ) : Type 0 where
  pub some_trees : 2 ≤ trees_of list
  pub few_trees : trees_of list ≤ trees_most
  pub tree : (i : ℕ) → i < trees_of list → IsTree (tree_at list i)
  pub same_tips : (i : ℕ) → i < trees_of list → tips (tree_at list i) ≡ tips (tree_at list 0)
  pub whole : start_of list (trees_of list) ≡ length list
