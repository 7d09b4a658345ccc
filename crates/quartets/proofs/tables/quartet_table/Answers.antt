-- The claim sums, then the five formulas; what comes out is the table of counts.
-- Assumes nothing.
use mathlib.Core.Path.{◌≡◌, sym, ◌∙◌}
use lib.ListN.{length}
use Rattle.tree_check.specs.Table.{tips}
use Rattle.marks.specs.Marks.{kept_of}
use Rattle.pair_check.specs.PairOrder.{MarkedPair}
use Rattle.pair_check.specs.lemmas.PairOutcomes.{work_says, work_told}
use Rattle.tree_pairs.proofs.lemmas.LentTables.{crossings_refused}
use Rattle.quartets.proofs.lemmas.FormedTable.{sums_fit, table_counts_lem, table_refused, answer_has}
use Rattle.quartets.proofs.tables.quartet_table.Goals.{After-claim_sums-arg-1}
use Rattle.quartets.proofs.tables.quartet_table.Goals as goal

-- ---- what is known there

-- a pair with marks and cells enough, with how many labels are kept as told
pair : (c : After-claim_sums-arg-1)
    → let s = c.args in
    MarkedPair s.first.now s.second.now s.marks.now (length s.work.now)
    × (c.in-Ok.pair.counted ≡ kept_of s.marks.now (tips s.first.now))
pair c =
    let p = work_says _ _ _ _ _ (sym c.check_work-answer.ensures.0 ∙ c.in-Ok.is) in
    (p.0, p.1.counted)

pub returns-in_default : goal.returns-in_default
returns-in_default c =
    let h = work_told _ _ _ _ _ _ _ c.check_work-answer.ensures.0 c.in_default.is c.refusal_of.ensures in
    let r = table_refused _ _ _ _ _ h.0 h.1 in
    (r, answer_has _ _ _ _ _ r, crossings_refused _ _ _ _ _ h.0 h.1)

pub form_table-requires : goal.form_table-requires
form_table-requires c =
    let p = pair (goal.at.form_table-requires c).After-claim_sums-arg-1 in
    sums_fit _ _ _ _ p.0 _ c.claim_sums-sums.ensures.0 _ p.1

pub returns : goal.returns
returns c =
    let p = pair (goal.at.returns c).After-claim_sums-arg-1 in
    let r = c.form_table.ensures ∙ table_counts_lem _ _ _ _ p.0 _ c.claim_sums-sums.ensures.0 _ p.1 in
    (r, answer_has _ _ _ _ _ r, c.claim_sums-sums.ensures.1)
