-- Striking is pruning: the figures of two trees under marks are those of the two trees cut down to the kept labels.
-- Assumes nothing.
use Rattle.std.specs.Prelude.{◌≡◌}
use Rattle.tree_check.specs.Table.{Table}
use Rattle.counting.specs.Labels.{Labels, all}
use Rattle.counting.specs.ClaimSums.{S, S2, S3}
use Rattle.counting.specs.declared.Case.{Case}
use Rattle.counting.specs.Cases.{quartets}
use Rattle.counting.specs.SplitCounts.{splits, common_splits, robinson_foulds}

-- the figures of two tables over l are those of two others over all their k labels
pub record FiguresOfCut (l : Labels) (t u c d : Table) : Type 0 where
  pub first : S l t ≡ S (all l.number) c
  pub second : S l u ≡ S (all l.number) d
  pub same : S2 l t u ≡ S2 (all l.number) c d
  pub different : S3 l t u ≡ S3 (all l.number) c d
  pub counts : (k : Case) → quartets l t u k ≡ quartets (all l.number) c d k
  pub first_splits : splits l t ≡ splits (all l.number) c
  pub second_splits : splits l u ≡ splits (all l.number) d
  pub common : common_splits l t u ≡ common_splits (all l.number) c d
  pub robinson_foulds_same : robinson_foulds l t u ≡ robinson_foulds (all l.number) c d
