-- A mark above 1 is refused; 0 and 1 are wishes.
-- Assumes nothing.
use mathlib.Core.Path.{◌∙◌, ap}
use native.Mathlib.Omega.{arith}
use Rattle.one_label.specs.declared.answers.Wish.{Wish}
use Rattle.one_label.specs.Changes.{change_answer, marks_after}
use Rattle.capi.specs.PlainLabels.{plain_five, five}
use Rattle.capi.specs.lemmas.MarkLaws.{mark_refused, mark_wished}
use Rattle.capi.proofs.labels.leskwyn_change_mark.Goals as goal

pub returns-then-mark-gt1 : goal.returns-then-mark-gt1
returns-then-mark-gt1 c =
    let a = c.args in
    let o = mark_refused a.first.now a.second.now a.marks.now (five a.a a.b a.c a.d a.e) a.label a.mark _
    (omega (arith, c.if-mark-gt1.true)) c.tables_or_32.ensures in
    (ap plain_five o.0, o.1)

pub returns : goal.returns
returns c =
    let a = c.args in
    let n = five a.a a.b a.c a.d a.e in
    let o = mark_wished a.first.now a.second.now a.marks.now n a.label a.mark (omega (arith, c.if-mark-gt1.false)) in (
      c.from.ensures ∙ ap plain_five (c.change_mark.ensures.0
          ∙ ap (λ (q : Wish). change_answer a.first.now a.second.now a.marks.now n a.label q) c.wish_of.ensures ∙ o.0),
      c.change_mark.ensures.1
          ∙ ap (λ (q : Wish). marks_after a.first.now a.second.now a.marks.now n a.label q) c.wish_of.ensures ∙ o.1,
    )
