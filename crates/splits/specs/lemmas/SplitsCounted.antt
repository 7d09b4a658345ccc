-- The split counts as they are counted in the cells.
-- Assumes nothing.
use Rattle.std.specs.Prelude.{List, ℕ, ◌+◌, ◌*◌, ◌-◌, ◌≤◌, length}
use Rattle.splits.specs.declared.counts.SplitCounts.{SplitCounts}
use Rattle.tree_pairs.specs.lemmas.EdgeRows.{EdgeRoom}
use Rattle.splits.specs.lemmas.SplitCells.{edge_splits, common_rows}
use Rattle.splits.specs.lemmas.SplitLoops.{RowsRoom}

-- what the counts ask of the cells
pub record SplitsCountable (work : List ℕ) (n : ℕ) (ps qs : List ℕ) : Type 0 where
  pub first_room : EdgeRoom (length work) (length qs - 1) ps
  pub second_room : EdgeRoom (length work) 1 qs
  pub rows : RowsRoom (length work) (length qs - 1) ps
  pub few : edge_splits n work (length qs - 1) ps + edge_splits n work 1 qs ≤ 65535
  pub fits : 2 * common_rows n work (length qs - 1) ps ≤ edge_splits n work (length qs - 1) ps + edge_splits n work 1 qs

unfoldable pub splits_counted : List ℕ → ℕ → List ℕ → List ℕ → SplitCounts
splits_counted work n ps qs =
    let first = edge_splits n work (length qs - 1) ps in
    let second = edge_splits n work 1 qs in
    let common = common_rows n work (length qs - 1) ps in
    record {
      refusal = 0;
      first = first;
      second = second;
      common = common;
      distance = first + second - 2 * common;
    }
