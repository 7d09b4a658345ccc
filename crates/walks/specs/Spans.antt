-- Which node each label's tip is, and where the labels at or below each node stand in the walk (docs/SPECIFICATION.md, 'Spans').
-- Assumes nothing.
use Rattle.std.specs.Prelude.{ℕ, ◌+◌, ◌-◌, List, [], ◌∷◌, ◌++◌, nat_lt}
use Rattle.sums.specs.Lists.{in_front}
use Rattle.tree_check.specs.Table.{Table, tips, nodes}
use Rattle.tree_check.specs.Refusals.{Rule, if_accepted}
use Rattle.tree_check.specs.TreeOrder.{tree_order}
use Rattle.walks.specs.Walk.{below, start}

-- 12: the list of labels has fewer than n cells, or a list of places fewer than m
abbrev pub lists_order : ℕ → ℕ → ℕ → ℕ → ℕ → List Rule
lists_order labelled begins ends n m = (12, nat_lt labelled n) ∷ (12, nat_lt begins m) ∷ (12, nat_lt ends m) ∷ []

-- the table's order, then 12
unfoldable pub spans_order : Table → ℕ → ℕ → ℕ → List Rule
spans_order t labelled begins ends = tree_order t ++ lists_order labelled begins ends (tips t) (nodes t)

-- the labels but 0 at or below node v stand side by side in the walk: the place of the first, and the place after the last.
-- Places are counted from the one after label 0's, so that a byte holds each
abbrev pub span_begin : Table → ℕ → ℕ
span_begin t v = start t v - 1

abbrev pub span_end : Table → ℕ → ℕ
span_end t v = start t v + below t v - 1

-- a lent list afterwards: k values in front, and later cells as they were; a refusal changes no cell
abbrev pub filled : ℕ → ℕ → (ℕ → ℕ) → List ℕ → List ℕ
filled number k f cells = if_accepted number (in_front k f cells) cells
