-- The pair's number decides; an accepted pair is compared with a mark of 1 for each label.
-- Assumes nothing.
use mathlib.Core.Path.{◌≡◌, sym, ◌∙◌}
use Prim.Native.Nat.{◌≤◌}
use native.Mathlib.Omega.{arith}
use Rattle.table_words.specs.Sizes.{tips_most}
use Rattle.tree_check.specs.Table.{tips}
use Rattle.marks.proofs.theorems.Ones.{ones}
use Rattle.pair_check.specs.PairOrder.{PairWithCells}
use Rattle.pair_check.specs.lemmas.PairOutcomes.{cells_says, cells_told}
use Rattle.pair_file.specs.PairFile.{cells_lent}
use Rattle.pair_file.specs.lemmas.PairFigures.{marks_lent, pair_refused, pair_accepted}
use Rattle.pair_file.proofs.comparison.compare_tables.Goals.{After-from-n, In-Ok}
use Rattle.pair_file.proofs.comparison.compare_tables.Goals as goal

-- ---- what is known there

-- the tables are a pair, with n as told
pair : (c : In-Ok)
    → let s = c.args in
    PairWithCells s.first.now s.second.now cells_lent × (c.in-Ok.pair.tips ≡ tips s.first.now)
pair c =
    let p = cells_says _ _ _ _ (sym c.check_cells-answer.ensures.0 ∙ c.in-Ok.is) in
    (p.0, p.1.tips)

tips-few : (c : After-from-n) → c.from-n.result ≤ tips_most
tips-few c =
    let p = pair (goal.at.After-from-n c).In-Ok in
    omega (arith, c.from-n.ensures, p.1, p.0.pair.first.tips_range.1)

-- ---- the needs

pub returns-in_default : goal.returns-in_default
returns-in_default c =
    let h = cells_told _ _ _ _ _ _ c.check_cells-answer.ensures.0 c.in_default.is c.refusal_of.ensures in
    c.refused.ensures ∙ pair_refused _ _ _ h.0 h.1

pub slice_bounds-marks-end : goal.slice_bounds-marks-end
slice_bounds-marks-end c = tips-few c

pub slice_bounds-figures_of-end : goal.slice_bounds-figures_of-end
unfolding ones
slice_bounds-figures_of-end c = marks_lent _ (tips-few (goal.at.slice_bounds-figures_of-end c).After-from-n)

pub returns : goal.returns
unfolding ones
returns c =
    let p = pair (goal.at.returns c).In-Ok in
    c.figures_of.ensures ∙ pair_accepted _ _ p.0 _ _ p.1 c.from-n.ensures
