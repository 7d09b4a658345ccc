-- Each return is an outcome of the order.
-- Assumes nothing.
use mathlib.Core.Path.{◌≡◌, sym, ◌∙◌}
use native.Mathlib.Omega.{arith}
use Rattle.std.proofs.lemmas.Result.{err_from_is_err_and}
use Rattle.tree_check.specs.Table.{tips}
use Rattle.marks.specs.Marks.{AreMarks, kept_of}
use Rattle.marks.proofs.lemmas.MarkOutcomes.{marks_say, marks_refused_by}
use Rattle.pair_check.specs.PairOrder.{IsPair}
use Rattle.pair_check.specs.lemmas.PairOutcomes.{Tells, check_says, pair_refused}
use Rattle.one_label.proofs.lemmas.LabelCheck.{tables_turned, marks_turned, label_turned, label_found}
use Rattle.one_label.proofs.checks.check_label.Goals.{In_ok-pair, In_ok-kept}
use Rattle.one_label.proofs.checks.check_label.Goals as goal

-- ---- what is known

-- the tables are a pair
tables : (c : In_ok-pair) → let a = c.args in
    IsPair a.first.now a.second.now × Tells c.in_ok-pair.pair a.first.now a.second.now (tips a.first.now)
tables c = check_says _ _ _ (sym c.in_ok-pair.ensures.0)

-- the marks are marks of their labels
marked : (c : In_ok-kept) → let a = c.args in
    AreMarks a.marks.now (tips a.first.now) × (c.in_ok-kept.kept ≡ kept_of a.marks.now (tips a.first.now))
marked c = marks_say _ _ _ _ (tables (goal.at.In_ok-kept c).In_ok-pair).1.tips c.in_ok-kept.ensures

pub returns-in_err-pair : goal.returns-in_err-pair
returns-in_err-pair c =
    let p = err_from_is_err_and c.from_residual.result c.from_residual.ensures.1 in
    rw (p.1, p.2) (tables_turned _ _ _ _ _ (pair_refused _ _ _ c.in_err-pair.ensures.0))

pub returns-in_err-kept : goal.returns-in_err-kept
returns-in_err-kept c =
    let p = err_from_is_err_and c.from_residual-in_err-kept.result c.from_residual-in_err-kept.ensures.1 in
    let t = tables (goal.at.returns-in_err-kept c).In_ok-pair in
    rw (p.1, p.2) (marks_turned _ _ _ _ t.0 _ (marks_refused_by _ _ _ _ t.1.tips c.in_err-kept.ensures))

pub returns-then-pair-label : goal.returns-then-pair-label
returns-then-pair-label c =
    let t = tables (goal.at.returns-then-pair-label c).In_ok-pair in
    let m = marked (goal.at.returns-then-pair-label c).In_ok-kept in
    label_turned _ _ _ _ t.0 m.0 (omega (arith, t.1.tips, c.if-pair-label.true))

pub overflow_add-result : goal.overflow_add-result
overflow_add-result c =
    let t = tables (goal.at.overflow_add-result c).In_ok-pair in
    omega (arith, t.1.rows, t.0.first.tips_range, t.0.first.nodes_range)

pub overflow_add-result-2 : goal.overflow_add-result-2
overflow_add-result-2 c =
    let t = tables (goal.at.overflow_add-result-2 c).In_ok-pair in
    omega (arith, t.1.columns, t.0.second.tips_range, t.0.second.nodes_range)

pub returns : goal.returns
returns c =
    let t = tables (goal.at.returns c).In_ok-pair in
    let m = marked (goal.at.returns c).In_ok-kept in
    label_found _ _ _ _ t.0 m.0 _ _ _ _ (c.from.ensures ∙ t.1.tips) t.1.rows t.1.columns m.1
    (omega (arith, c.from.ensures, c.if-pair-label.false))
