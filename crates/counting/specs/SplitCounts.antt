-- The four split counts of two tree tables, and the same splits (docs/SPECIFICATION.md, 'Splits', 'The same splits').
-- Assumes nothing.
use Rattle.std.specs.Prelude.{Bool, ℕ, ◌+◌, ◌*◌, ◌-◌}
use Rattle.shapes.specs.Splits.{splits_of, common_of, SameSplits}
use Rattle.tree_check.specs.Table.{Table, nodes, beyond}
use Rattle.counting.specs.Labels.{Labels}

-- the label of rank x lies beyond edge i
unfoldable pub beyond_at : Labels → Table → ℕ → ℕ → Bool
beyond_at l t i x = beyond t i (l.at x)

-- how many splits a tree has: different pairs of label sets with two labels or more in each, each pair once
unfoldable pub splits : Labels → Table → ℕ
splits l t = splits_of l.number (nodes t - 1) (beyond_at l t)

-- how many splits of the first tree the other has too
unfoldable pub common_splits : Labels → Table → Table → ℕ
common_splits l t u = common_of l.number (nodes t - 1) (beyond_at l t) (nodes u - 1) (beyond_at l u)

-- the Robinson-Foulds distance, first + second − 2 · common
unfoldable pub robinson_foulds : Labels → Table → Table → ℕ
robinson_foulds l t u = splits l t + splits l u - 2 * common_splits l t u

-- for each split of either tree, the other has one with the same label sets; two trees without a split have the same
abbrev pub HaveSameSplits : Labels → Table → Table → Type 0
HaveSameSplits l t u = SameSplits l.number (nodes t - 1) (beyond_at l t) (nodes u - 1) (beyond_at l u)
