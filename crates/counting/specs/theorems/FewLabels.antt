-- Fewer than four labels give zero figures.
-- Assumes nothing.
use Rattle.std.specs.Prelude.{◌≡◌}
use Rattle.tree_check.specs.Table.{Table}
use Rattle.counting.specs.Labels.{Labels}
use Rattle.counting.specs.ClaimSums.{S, S2, S3}
use Rattle.counting.specs.declared.Case.{Case}
use Rattle.counting.specs.Cases.{quartets}
use Rattle.counting.specs.SplitCounts.{splits, common_splits, robinson_foulds}

-- all figures of two tables over labels are 0
pub record NoFigures (l : Labels) (t u : Table) : Type 0 where
  pub sums : (S l t ≡ 0) × (S l u ≡ 0) × (S2 l t u ≡ 0) × (S3 l t u ≡ 0)
  pub counts : (k : Case) → quartets l t u k ≡ 0
  pub split_counts : (splits l t ≡ 0) × (splits l u ≡ 0) × (common_splits l t u ≡ 0) × (robinson_foulds l t u ≡ 0)
