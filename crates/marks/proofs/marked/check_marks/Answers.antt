-- Each return is an outcome of the marks' order.
-- Assumes nothing.
use mathlib.Core.Path.{sym, ◌∙◌}
use Rattle.marks.proofs.lemmas.MarkOutcomes.{marks_short, marks_wrong, marks_right}
use Rattle.marks.proofs.marked.check_marks.Goals as goal

pub returns-then-marks-from : goal.returns-then-marks-from
returns-then-marks-from c = marks_short _ _ (λ e. c.if-marks-from.true (e ∙ sym c.from.ensures))

pub returns-then-wrong_marks-ne0 : goal.returns-then-wrong_marks-ne0
returns-then-wrong_marks-ne0 c =
    marks_wrong _ _ (c.if-marks-from.false ∙ c.from.ensures) _ c.wrong_marks.ensures c.if-wrong_marks-ne0.true

pub returns : goal.returns
returns c =
    marks_right _ _ (c.if-marks-from.false ∙ c.from.ensures) _ c.wrong_marks.ensures c.if-wrong_marks-ne0.false _
    c.kept_marks.ensures
