-- The split counts of a pair call.
-- Assumes nothing.
use Rattle.std.specs.Prelude.{List, ℕ}
use Rattle.counting.specs.SplitCounts.{splits, common_splits, robinson_foulds}
use Rattle.counting.specs.Labels.{Labels}
use Rattle.counting.specs.Kept.{kept}
use Rattle.tree_check.specs.Table.{Table, tips}
use Rattle.tree_check.specs.Refusals.{refusal, if_accepted}
use Rattle.splits.specs.declared.counts.SplitCounts.{SplitCounts}
use Rattle.pair_check.specs.PairOrder.{pair_order}

-- counted by these labels: the first tree's splits, the second's, those whose two label sets also occur in the other tree, and
-- the Robinson-Foulds distance
abbrev pub splits_among : Labels → Table → Table → SplitCounts
splits_among l t u = record {
  refusal = 0;
  first = splits l t;
  second = splits l u;
  common = common_splits l t u;
  distance = robinson_foulds l t u;
}

-- the number of a refused pair, with zeros
abbrev pub refused_splits : ℕ → SplitCounts
refused_splits number = record { refusal = number; first = 0; second = 0; common = 0; distance = 0 }

-- the splits among the kept labels
unfoldable pub split_answer : Table → Table → List ℕ → ℕ → SplitCounts
split_answer t u marks cells =
    let number = refusal (pair_order t u marks cells) in
    if_accepted number (splits_among (kept marks (tips t)) t u) (refused_splits number)
