-- The tables, then the levels, then the two calls with the marks that the levels are.
-- Assumes nothing.
use mathlib.Core.Path.{◌≡◌, sym, ◌∙◌}
use Prim.Native.Nat.{◌≤◌}
use native.Mathlib.Omega.{arith}
use Rattle.sums.specs.Counts.{count}
use Rattle.table_words.specs.Sizes.{tips_most}
use Rattle.tree_check.specs.Table.{tips}
use Rattle.tree_check.specs.Refusals.{refusal}
use Rattle.pair_check.specs.PairOrder.{IsPair}
use Rattle.pair_check.specs.lemmas.PairOutcomes.{pair_told, check_says}
use Rattle.levels.specs.Levels.{is_visible, levels_order}
use Rattle.levels.specs.theorems.LevelsCheck.{AreLevels}
use Rattle.levels.specs.lemmas.LevelOutcomes.{levels_say}
use Rattle.views.proofs.lemmas.Marking.{marks_fit, marks-part, marks_are}
use Rattle.views.proofs.lemmas.ViewOutcomes.{tables_away, levels_away, room_away, accepted}
use Rattle.views.proofs.pairs.view.Goals.{After-from-n, After-check_levels-told, After-marks_for-marks}
use Rattle.views.proofs.pairs.view.Goals as goal

-- ---- what is known there

-- the tables are a pair, with n as told
pair : (c : After-check_levels-told)
    → let s = c.args in
    IsPair s.first.now s.second.now × (c.in-Ok.pair.tips ≡ tips s.first.now)
pair c =
    let h = check_says _ _ _ (sym c.check_pair-answer.ensures.0 ∙ c.in-Ok.is) in
    (h.0, h.1.tips)

-- the levels are told
said : (c : After-check_levels-told)
    → let s = c.args in
    (c.check_levels-told.result.refusal ≡ refusal (levels_order s.levels.now s.viewer (tips s.first.now)))
    × (c.check_levels-told.result.refusal ≡ 0 → AreLevels s.levels.now s.viewer (tips s.first.now)
    × (c.check_levels-told.result.visible ≡ count (tips s.first.now) (is_visible s.levels.now s.viewer)))
said c = levels_say _ _ _ _ (pair c).1 _ c.check_levels-told.ensures

-- they are right
right : (c : After-marks_for-marks)
    → let s = c.args in AreLevels s.levels.now s.viewer (tips s.first.now)
right c = ((said (goal.at.After-marks_for-marks c).After-check_levels-told).1 c.if-told-ne0.false).0

few : (c : After-marks_for-marks) → tips c.args.first.now ≤ tips_most
few c = (pair (goal.at.After-marks_for-marks c).After-check_levels-told).0.first.tips_range.1

-- n, as the marks are lent
tips-are : (c : After-from-n) → c.from-n.result ≡ tips c.args.first.now
tips-are c = c.from-n.ensures ∙ (pair (goal.at.After-from-n c).After-check_levels-told).1

pub returns-in_default : goal.returns-in_default
returns-in_default c =
    let h = pair_told _ _ _ _ _ c.check_pair-answer.ensures.0 c.in_default.is c.refusal_of.ensures in
    rw c.refused.ensures (tables_away _ _ _ _ _ _ h.0 h.1)

pub returns-then-told-ne0 : goal.returns-then-told-ne0
returns-then-told-ne0 c =
    rw c.refused-then-told-ne0.ensures (levels_away _ _ _ _ _ (pair (goal.at.returns-then-told-ne0 c).After-check_levels-told).0 _ (said (goal.at.returns-then-told-ne0 c).After-check_levels-told).0 c.if-told-ne0.true)

pub marks_for-marks-requires : goal.marks_for-marks-requires
marks_for-marks-requires c =
    omega (arith, ((said (goal.at.marks_for-marks-requires c).After-check_levels-told).1 c.if-told-ne0.false).0.long, (pair (goal.at.marks_for-marks-requires c).After-check_levels-told).0.first.tips_range)

pub slice_bounds-marks-end : goal.slice_bounds-marks-end
slice_bounds-marks-end c =
    marks_fit c.args.levels.now c.args.viewer _ (right (goal.at.slice_bounds-marks-end c).After-marks_for-marks).long (few (goal.at.slice_bounds-marks-end c).After-marks_for-marks) _ c.marks_for-marks.ensures _ (tips-are c)

pub slice_bounds-quartet_table-end : goal.slice_bounds-quartet_table-end
slice_bounds-quartet_table-end c =
    marks-part c.args.levels.now c.args.viewer _ (right (goal.at.slice_bounds-quartet_table-end c).After-marks_for-marks).long (few (goal.at.slice_bounds-quartet_table-end c).After-marks_for-marks) _ c.marks_for-marks.ensures _ (tips-are (goal.at.slice_bounds-quartet_table-end c).After-from-n)

pub returns-then-table-ne0 : goal.returns-then-table-ne0
returns-then-table-ne0 c =
    rw c.refused-then-table-ne0.ensures (room_away _ _ _ _ _ (pair (goal.at.returns-then-table-ne0 c).After-check_levels-told).0 (right (goal.at.returns-then-table-ne0 c).After-marks_for-marks) _
    (marks_are _ _ _ (right (goal.at.returns-then-table-ne0 c).After-marks_for-marks).long (few (goal.at.returns-then-table-ne0 c).After-marks_for-marks) _ c.marks_for-marks.ensures _ (tips-are (goal.at.returns-then-table-ne0 c).After-from-n)) _ c.quartet_table-table.ensures.0
    c.quartet_table-table.ensures.1.number _ c.quartet_table-table.ensures.2 c.if-table-ne0.true)

pub slice_bounds-marks-end-2 : goal.slice_bounds-marks-end-2
slice_bounds-marks-end-2 c =
    marks_fit c.args.levels.now c.args.viewer _ (right (goal.at.slice_bounds-marks-end-2 c).After-marks_for-marks).long (few (goal.at.slice_bounds-marks-end-2 c).After-marks_for-marks) _ c.marks_for-marks.ensures _ (tips-are (goal.at.slice_bounds-marks-end-2 c).After-from-n)

pub slice_bounds-split_counts-end : goal.slice_bounds-split_counts-end
slice_bounds-split_counts-end c =
    marks-part c.args.levels.now c.args.viewer _ (right (goal.at.slice_bounds-split_counts-end c).After-marks_for-marks).long (few (goal.at.slice_bounds-split_counts-end c).After-marks_for-marks) _ c.marks_for-marks.ensures _ (tips-are (goal.at.slice_bounds-split_counts-end c).After-from-n)

pub returns : goal.returns
returns c =
    let em = marks_are _ _ _ (right (goal.at.returns c).After-marks_for-marks).long (few (goal.at.returns c).After-marks_for-marks) _ c.marks_for-marks.ensures _ (tips-are (goal.at.returns c).After-from-n) in
    accepted _ _ _ _ _ (pair (goal.at.returns c).After-check_levels-told).0 (right (goal.at.returns c).After-marks_for-marks) _ em _ c.quartet_table-table.ensures.0 c.quartet_table-table.ensures.1.number _
    c.quartet_table-table.ensures.2 c.if-table-ne0.false _ c.split_counts-splits.ensures.0 _ c.split_counts-splits.ensures.1
    _ _ _ _ _ (c.from.ensures ∙ ((said (goal.at.returns c).After-check_levels-told).1 c.if-told-ne0.false).1)
    c.from-2.ensures c.from-3.ensures c.from-4.ensures
    c.from-5.ensures
