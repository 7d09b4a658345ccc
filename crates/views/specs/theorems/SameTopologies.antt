-- Two tree tables, whose n may differ, with the same topologies of each set of four of some labels: they have the same splits
-- among these labels, the same topologies in any order, and the same figures.
-- Assumes nothing.
use Rattle.std.specs.Prelude.{◌≡◌, ℕ, ◌<◌}
use Rattle.tree_check.specs.Table.{Table}
use Rattle.counting.specs.Labels.{Labels}
use Rattle.counting.specs.declared.Case.{Case}
use Rattle.counting.specs.Cases.{topology_at, quartets}
use Rattle.counting.specs.SplitCounts.{splits, common_splits, robinson_foulds}

-- each set of four of the labels has the same topology in both
abbrev pub SameSets : Labels → Table → Table → Type 0
SameSets l t t' = (w x y z : ℕ) → w < x → x < y → y < z → z < l.number → topology_at l t w x y z ≡ topology_at l t' w x y z

-- the figures of two pairs
pub record SameSeen (l : Labels) (t u t' u' : Table) : Type 0 where
  pub counts : (k : Case) → quartets l t u k ≡ quartets l t' u' k
  pub first_splits : splits l t ≡ splits l t'
  pub second_splits : splits l u ≡ splits l u'
  pub common : common_splits l t u ≡ common_splits l t' u'
  pub robinson_foulds_same : robinson_foulds l t u ≡ robinson_foulds l t' u'
