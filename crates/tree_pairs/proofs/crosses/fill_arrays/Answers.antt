-- Spans listed, rows written, rows added up: each call leaves what the next one asks.
-- Assumes nothing.
use mathlib.Core.Path.{◌≡◌}
use mathlib.Core.List.{List}
use Prim.Native.Nat.{ℕ, ◌-◌}
use native.Mathlib.Omega.{arith}
use lib.ListN.{length}
use Rattle.tree_check.specs.Table.{word, nodes}
use Rattle.walks.specs.theorems.SpanLaws.{SpansOf}
use Rattle.tree_pairs.specs.lemmas.TipRows.{TipRoom, TipRows}
use Rattle.tree_pairs.specs.lemmas.RowsUp.{Room, RowsAdded}
use Rattle.tree_pairs.proofs.lemmas.Filling.{to_width, of_width, sizes, listed, tip_room, rows_room, filled}
use Rattle.tree_pairs.proofs.crosses.fill_arrays.Goals.{After-add_rows-arg-1, After-from-width, After-tip_rows-arg-1}
use Rattle.tree_pairs.proofs.crosses.fill_arrays.Goals as goal

-- ---- what is known there

-- the width is that of the second table
width : (c : After-from-width) → c.from-width.result ≡ word c.args.second.now 1
width c = c.from-width.ensures

spanned : (c : After-tip_rows-arg-1) → SpansOf c.args.second.now
    c.spans.new.labelled c.spans.new.begin c.spans.new.end
spanned c = listed _ _ _ _ _ c.requires _ _ _ _ c.spans.ensures

abbrev row_list : (c : After-add_rows-arg-1) → List ℕ
row_list c = c.tip_rows.new.work

rows : (c : After-add_rows-arg-1) → TipRows c.args.first_labels.now c.args.marks.now c.args.n (nodes c.args.second.now - 1)
    c.spans.new.labelled c.spans.new.begin c.spans.new.end (length c.args.first_labels.now)
    c.args.work.now (row_list c)
rows c =
    of_width (λ w. TipRows c.args.first_labels.now c.args.marks.now c.args.n w
    c.spans.new.labelled c.spans.new.begin c.spans.new.end (length c.args.first_labels.now)
    c.args.work.now (row_list c)) _ _ (width (goal.at.After-add_rows-arg-1 c).After-from-width) c.tip_rows.ensures

-- ---- the needs

pub overflow_sub-width : goal.overflow_sub-width
overflow_sub-width c = unfold nodes in omega (arith, sizes _ _ _ _ _ c.requires, width c)

pub tip_rows-requires : goal.tip_rows-requires
tip_rows-requires c =
    to_width (λ w. TipRoom c.args.first_labels.now c.args.n w c.spans.new.labelled c.args.work.now) _ _ (width (goal.at.tip_rows-requires c).After-from-width)
    (tip_room _ _ _ _ _ c.requires _ _ _ (spanned c))

pub add_rows-requires : goal.add_rows-requires
add_rows-requires c =
    to_width (λ w. Room c.args.first_parents.now (row_list c) w) _ _ (width (goal.at.add_rows-requires c).After-from-width)
    (rows_room _ _ _ _ _ c.requires _ _ _ (spanned (goal.at.add_rows-requires c).After-tip_rows-arg-1) _ _ (rows c))

pub returns : goal.returns
returns c =
    filled _ _ _ _ _ c.requires _ _ _ (spanned (goal.at.returns c).After-tip_rows-arg-1) _ _ (rows (goal.at.returns c).After-add_rows-arg-1) _
    (of_width (λ w. RowsAdded c.args.first_parents.now (row_list (goal.at.returns c).After-add_rows-arg-1) c.add_rows.new.work w) _ _ (width (goal.at.returns c).After-from-width)
    c.add_rows.ensures)
