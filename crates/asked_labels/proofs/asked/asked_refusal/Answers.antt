-- Each return is an outcome of the order over the labels asked.
-- Assumes nothing.
use mathlib.Core.Path.{sym, ◌∙◌}
use mathlib.Core.List.{[]}
use Rattle.tree_check.specs.theorems.RefusalLaws.{refusal_none, refusal_here, refusal_next}
use Rattle.asked_labels.specs.LabelOrder.{asked_order}
use Rattle.asked_labels.proofs.asked.asked_refusal.Goals as goal

pub returns-then-some_too_large : goal.returns-then-some_too_large
unfolding asked_order
returns-then-some_too_large c = c.from.ensures ∙ sym (refusal_here 10 _ _ (sym c.some_too_large.ensures ∙ c.if-some_too_large.true))

pub returns-then-two_equal : goal.returns-then-two_equal
unfolding asked_order
returns-then-two_equal c =
    c.from-then-two_equal.ensures ∙ sym (refusal_next 10 _ _ (sym c.some_too_large.ensures ∙ c.if-some_too_large.false)
    ∙ refusal_here 11 _ _ (sym c.two_equal.ensures ∙ c.if-two_equal.true))

pub returns : goal.returns
unfolding asked_order
returns c =
    sym (refusal_next 10 _ _ (sym c.some_too_large.ensures ∙ c.if-some_too_large.false)
    ∙ refusal_next 11 _ [] (sym c.two_equal.ensures ∙ c.if-two_equal.false)
    ∙ refusal_none)
