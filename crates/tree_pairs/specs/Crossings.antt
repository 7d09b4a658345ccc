-- The crossing counts of two tables, and the work cells that hold them (docs/SPECIFICATION.md, 'Crossings', 'Work
-- cells').
-- Assumes nothing.
use Rattle.std.specs.Prelude.{◌&&◌, List, ℕ, suc, ◌-◌, ◌/◌, ◌%◌, length}
use Rattle.sums.specs.Counts.{count}
use Rattle.sums.specs.Lists.{in_front}
use Rattle.tree_check.specs.Table.{Table, tips, nodes}
use Rattle.tree_check.specs.Refusals.{refusal, if_accepted}
use Rattle.counting.specs.Labels.{Labels, all}
use Rattle.counting.specs.Kept.{kept}
use Rattle.counting.specs.SplitCounts.{beyond_at}
use Rattle.pair_check.specs.PairOrder.{cells_needed, cells_order, pair_order}

-- how many of the labels lie beyond both edge i of the first tree and edge j of the second
unfoldable pub edge_crossing : Labels → Table → Table → ℕ → ℕ → ℕ
edge_crossing l t u i j = count l.number (λ x. beyond_at l t i x && beyond_at l u j x)

-- the crossing in the cell c = (i − 1)(m' − 1) + (j − 1)
unfoldable pub cell_of : Labels → Table → Table → ℕ → ℕ
cell_of l t u c = edge_crossing l t u (suc (c / (nodes u - 1))) (suc (c % (nodes u - 1)))

-- the cells once the crossings are written; later cells stay
unfoldable pub crossed : Labels → Table → Table → List ℕ → List ℕ
crossed l t u work = in_front (cells_needed t u) (cell_of l t u) work

-- .. of all labels
abbrev pub crossed_all : Table → Table → List ℕ → List ℕ
crossed_all t u work = crossed (all (tips t)) t u work

-- .. of the labels that are kept
abbrev pub crossed_kept : Table → Table → List ℕ → List ℕ → List ℕ
crossed_kept t u marks work = crossed (kept marks (tips t)) t u work

-- the cells after a call with marks; a refusal leaves every cell as it was
unfoldable pub after_crossings : Table → Table → List ℕ → List ℕ → List ℕ
after_crossings t u marks work = if_accepted (refusal (pair_order t u marks (length work))) (crossed_kept t u marks work) work

-- .. and after one without, which counts all labels
unfoldable pub after_all : Table → Table → List ℕ → List ℕ
after_all t u work = if_accepted (refusal (cells_order t u (length work))) (crossed_all t u work) work
