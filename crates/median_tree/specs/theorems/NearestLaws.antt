-- The median tree: no tree of the list has a smaller sum, every earlier one has a larger, and the sums fit.
-- Assumes nothing.
use Rattle.std.specs.Prelude.{◌≡◌, List}
use Prim.Native.Nat.{ℕ, ◌<◌}
use Rattle.tree_check.specs.Table.{tips}
use Rattle.tree_lists.specs.TreeLists.{trees_of, tree_at}
use Rattle.counting.specs.Labels.{all}
use Rattle.counting.specs.SplitCounts.{HaveSameSplits}

-- as many trees, with the same n, and tree by tree the same splits
pub record SameLists (list other : List ℕ) : Type 0 where
  pub trees : trees_of list ≡ trees_of other
  pub same_tips : tips (tree_at list 0) ≡ tips (tree_at other 0)
  pub splits : (i : ℕ) → i < trees_of list → HaveSameSplits (all (tips (tree_at list 0))) (tree_at list i) (tree_at other i)
