-- What is known where the search needs a hint.
-- Assumes nothing.
use mathlib.Core.Path.{sym, ◌∙◌}
use native.Mathlib.Omega.{arith}
use borrow.Author.Count.{below_more}
use Rattle.sums.specs.theorems.TestLaws.{some-true, some-false}
use Rattle.asked_labels.specs.LabelOrder.{two_equal}
use Rattle.asked_labels.proofs.asked.two_equal.Goals as goal

pub returns-then-is_among : goal.returns-then-is_among
unfolding two_equal
returns-then-is_among c =
    sym (some-true _ _ c.loop-i.i c.loop-i-test.true
    (sym c.is_among.ensures ∙ c.if-is_among.true))

pub loop-i-preserved : goal.loop-i-preserved
loop-i-preserved c =
    let l = c.loop-i in
    below_more _ _ l.invariant (sym c.is_among.ensures ∙ c.if-is_among.false)

pub returns : goal.returns
unfolding two_equal
returns c =
    let l = c.loop-i in
    sym (some-false _ _ (λ k m. l.invariant k (omega arith)))
