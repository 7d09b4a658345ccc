-- Each return is an outcome of the order.
-- Assumes nothing.
use mathlib.Core.Path.{refl, sym, ◌∙◌}
use native.Mathlib.Omega.{arith}
use Rattle.tree_check.specs.theorems.NumberLaws.{passed_on}
use Rattle.tree_check.specs.Table.{tips}
use Rattle.marks.proofs.theorems.MarksCheck.{marks_check}
use Rattle.marks.proofs.lemmas.MarkOutcomes.{marks_say, marks_refused_by}
use Rattle.pair_check.specs.PairOrder.{IsPair}
use Rattle.pair_check.specs.lemmas.PairOutcomes.{Tells, check_says, pair_told}
use Rattle.kept_triplets.specs.lemmas.Formed.{sums_fit, counts_formed, tables_turned_away, marks_turned_away, counted, sized_of}
use Rattle.kept_triplets.proofs.tables.kept_triplets.Goals.{In-Ok}
use Rattle.kept_triplets.proofs.tables.kept_triplets.Goals as goal

-- ---- what is known

-- the tables are a pair
told : (c : In-Ok) → let a = c.args in
    IsPair a.first.now a.second.now × Tells c.in-Ok.pair a.first.now a.second.now (tips a.first.now)
told c = check_says _ _ _ (sym c.check_pair-answer.ensures.0 ∙ c.in-Ok.is)

pub returns-in_default : goal.returns-in_default
returns-in_default c =
    let h = pair_told _ _ _ _ _ c.check_pair-answer.ensures.0 c.in_default.is c.refusal_of.ensures in
    c.refused.ensures ∙ tables_turned_away _ _ _ _ (sym h.0) h.1

pub returns-in-Err : goal.returns-in-Err
returns-in-Err c =
    let a = told (goal.at.returns-in-Err c).In-Ok in
    let h = passed_on (marks_refused_by _ _ _ _ a.1.tips c.in-Err.ensures) c.from.ensures in
    c.refused-in-Err.ensures ∙ marks_turned_away _ _ _ a.0 _ (sym h.0) h.1

pub overflow_add-m : goal.overflow_add-m
overflow_add-m c = let a = told (goal.at.overflow_add-m c).In-Ok in omega (arith, a.1.rows, a.0.first.tips_range, a.0.first.nodes_range)

pub overflow_add-k : goal.overflow_add-k
overflow_add-k c = let a = told (goal.at.overflow_add-k c).In-Ok in omega (arith, a.1.columns, a.0.second.tips_range, a.0.second.nodes_range)

pub kept_sums-sums-requires : goal.kept_sums-sums-requires
kept_sums-sums-requires c =
    let a = told (goal.at.kept_sums-sums-requires c).In-Ok in (
      sized_of _ _ _ _ a.0.first (c.from-2.ensures ∙ a.1.tips) a.1.rows refl,
      sized_of _ _ _ _ a.0.second (c.from-2.ensures ∙ a.1.tips ∙ a.0.same_tips) a.1.columns refl,
    )

pub overflow_add-sums : goal.overflow_add-sums
overflow_add-sums c =
    let a = told (goal.at.overflow_add-sums c).In-Ok in
    omega (arith, (sums_fit _ _ _ _ _ _ _ _ a.0.first c.kept_sums-sums.ensures).tips_few)

pub form_table-requires : goal.form_table-requires
form_table-requires c =
    let a = told (goal.at.form_table-requires c).In-Ok in
    sums_fit _ _ _ _ _ _ _ _ a.0.first c.kept_sums-sums.ensures

pub returns : goal.returns
returns c =
    let a = told (goal.at.returns c).In-Ok in
    c.form_table.ensures ∙ counts_formed _ _ _ _ _ _ _ _ c.kept_sums-sums.ensures
    ∙ counted _ _ _ a.0 ((marks_check _ _).1 (marks_say _ _ _ _ a.1.tips c.in_default-check_marks.ensures).0)
