-- What is known where the search needs a hint.
-- Assumes nothing.
use mathlib.Core.Path.{refl, sym, ◌∙◌}
use native.Mathlib.Omega.{arith}
use Rattle.sums.specs.theorems.CountSteps.{count-start, count_hit, count_miss, count_few}
use Rattle.levels.proofs.levels.visible_labels.Goals.{else-is_visible, then-is_visible}
use Rattle.levels.proofs.levels.visible_labels.Goals as goal

pub loop-x-init : goal.loop-x-init
loop-x-init c = count-start _

pub overflow_add-total : goal.overflow_add-total
overflow_add-total c =
    omega (arith, count_few _ _ _ c.loop-x.invariant, c.loop-x-test.true, c.requires)

pub loop-x-preserved : goal.loop-x-preserved
loop-x-preserved c =
    let l = c.loop-x in
    elim c.if-is_visible.branch [ then-is_visible h ↦ rw h.total-is (count_hit _ _ _ _ l.invariant refl (sym c.is_visible.ensures ∙ h.if-is_visible.true)) | else-is_visible h ↦ rw h.total-is (count_miss _ _ _ _ l.invariant refl (sym c.is_visible.ensures ∙ h.if-is_visible.false)) ]
