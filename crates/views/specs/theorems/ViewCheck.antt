-- What the order of a view accepts.
-- Assumes nothing.
use Rattle.std.specs.Prelude.{List, ℕ}
use Rattle.tree_check.specs.Table.{Table, tips}
use Rattle.pair_check.specs.PairOrder.{PairWithCells}
use Rattle.levels.specs.theorems.LevelsCheck.{AreLevels}

-- two tree tables with the same n, levels of their labels, and cells enough
pub record LevelledPair (t u : Table) (levels : List ℕ) (viewer cells : ℕ) : Type 0 where
  pub with_cells : PairWithCells t u cells
  pub levelled : AreLevels levels viewer (tips t)
