-- Some label lies beyond each edge of a tree table, and label 0 beyond none; common splits and the Robinson-Foulds distance
-- are the same counted from either tree.
-- Assumes nothing.
use Rattle.std.specs.Prelude.{Bool}
use Prim.Native.Nat.{◌-◌}
use Rattle.shapes.specs.theorems.SplitLaws.{same_splits_of}
use Rattle.shapes.proofs.theorems.RobinsonFoulds as rf
use Rattle.shapes.proofs.theorems.SameSplits as ss
use Rattle.tree_check.specs.Table.{Table, nodes, label}
use Rattle.counting.specs.Labels.{Labels}
use Rattle.counting.specs.SplitCounts.{beyond_at}

-- for each split of either tree, the other has one with the same label sets; two trees without a split have the same
unfoldable pub same_splits : Labels → Table → Table → Bool
same_splits l t u = same_splits_of l.number (nodes t - 1) (beyond_at l t) (nodes u - 1) (beyond_at l u)
