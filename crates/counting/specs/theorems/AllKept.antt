-- With all marks 1 every figure is that of all labels.
-- Assumes nothing.
use Rattle.std.specs.Prelude.{◌≡◌}
use Prim.Native.Nat.{ℕ, ◌<◌}
use Rattle.tree_check.specs.Table.{Table}
use Rattle.counting.specs.Labels.{Labels}
use Rattle.counting.specs.ClaimSums.{S, S2, S3}
use Rattle.counting.specs.declared.Case.{Case}
use Rattle.counting.specs.Cases.{quartets}
use Rattle.counting.specs.SplitCounts.{splits, common_splits, robinson_foulds}

-- as many labels, and the same of each rank
pub record Alike (l m : Labels) : Type 0 where
  pub same_number : l.number ≡ m.number
  pub same_at : (x : ℕ) → x < l.number → l.at x ≡ m.at x

-- the figures of two tables over l and over m
pub record FiguresAlike (l m : Labels) (t u : Table) : Type 0 where
  pub first : S l t ≡ S m t
  pub second : S l u ≡ S m u
  pub same : S2 l t u ≡ S2 m t u
  pub different : S3 l t u ≡ S3 m t u
  pub counts : (k : Case) → quartets l t u k ≡ quartets m t u k
  pub first_splits : splits l t ≡ splits m t
  pub second_splits : splits l u ≡ splits m u
  pub common : common_splits l t u ≡ common_splits m t u
  pub robinson_foulds_same : robinson_foulds l t u ≡ robinson_foulds m t u
