-- The first edge with its two label sets, by sizes: fewer labels lie beyond it than beyond the edge above, and no edge before it
-- leads from the same node to all the other labels.
-- Assumes nothing.
use Rattle.std.specs.Prelude.{Bool, ◌&&◌, ℕ, suc, ◌+◌, eqb}
use Rattle.sums.specs.Counts.{count}
use Rattle.tree_check.specs.Table.{Table, tips, parent, beyond}
use Rattle.counting.specs.Labels.{Labels, all}
use Rattle.counting.specs.SplitCounts.{beyond_at}

-- how many of the labels lie beyond edge i
abbrev pub size_at : Labels → Table → ℕ → ℕ
size_at l t i = count l.number (beyond_at l t i)

-- of all labels
abbrev pub size_beyond : Table → ℕ → ℕ
size_beyond t i = count (tips t) (beyond t i)

-- edges i + 1 and j + 1 leave one node, and all labels lie beyond the two
unfoldable pub halves : Labels → Table → ℕ → ℕ → Bool
halves l t i j = eqb (parent t (suc j)) (parent t (suc i)) && eqb (size_at l t (suc j) + size_at l t (suc i)) l.number
