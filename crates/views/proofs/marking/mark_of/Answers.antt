-- 1 where the label is visible, and 0 where not.
-- Assumes nothing.
use mathlib.Core.Path.{sym, ◌∙◌, ap}
use Rattle.sums.specs.Bits.{bit}
use Rattle.views.proofs.marking.mark_of.Goals as goal

pub returns-then-is_visible : goal.returns-then-is_visible
returns-then-is_visible c = unfold bit in sym (ap bit (sym c.is_visible.ensures ∙ c.if-is_visible.true))

pub returns : goal.returns
returns c = unfold bit in sym (ap bit (sym c.is_visible.ensures ∙ c.if-is_visible.false))
