-- The quartet distance is a metric on trees up to their splits, and so is the weighted distance with k from 128 on.
-- Assumes nothing.
use Rattle.std.specs.Prelude.{◌≡◌, ◌↔◌, ℕ, ◌+◌, ◌≤◌}
use Rattle.tree_check.specs.Table.{Table, tips}
use Rattle.tree_check.specs.IsTree.{IsTree}
use Rattle.counting.specs.Labels.{Labels}
use Rattle.counting.specs.Cases.{distance}
use Rattle.counting.specs.SplitCounts.{HaveSameSplits}

-- a distance between points, of which some are taken for the same
pub record IsMetric (Point : Type 0) (Same : Point → Point → Type 0) (d : Point → Point → ℕ) : Type 0 where
  pub itself : (p : Point) → d p p ≡ 0
  pub zero_iff_same : (p q : Point) → (d p q ≡ 0) ↔ Same p q
  pub either_way : (p q : Point) → d q p ≡ d p q
  pub triangle : (p q r : Point) → d p r ≤ d p q + d q r

-- a tree table with n tips
pub record Tree (n : ℕ) : Type 0 where
  pub table : Table
  pub is_tree : IsTree table
  pub has_tips : tips table ≡ n

-- trees with the same splits among the labels are taken for the same
abbrev pub SameTree : {n : ℕ} → Labels → Tree n → Tree n → Type 0
SameTree l t u = HaveSameSplits l t.table u.table
