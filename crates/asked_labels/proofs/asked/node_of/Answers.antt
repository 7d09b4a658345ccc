-- What is known where the search needs a hint.
-- Assumes nothing.
use mathlib.Core.Path.{refl, sym, ◌∙◌}
use native.Mathlib.Numerals.{add-one}
use borrow.Author.Tests.{eq-eqb, ne_eqb}
use Rattle.tree_check.specs.Table.{node_below}
use Rattle.asked_labels.proofs.asked.node_of.Goals.{else-label-x, then-label-x}
use Rattle.asked_labels.proofs.asked.node_of.Goals as goal

pub loop-v-init : goal.loop-v-init
unfolding node_below
loop-v-init c = refl

pub loop-v-preserved : goal.loop-v-preserved
unfolding node_below
loop-v-preserved c =
    let l = c.loop-v in
    elim c.if-label-x.branch [ then-label-x h ↦ h.at-is ∙ sym (rw (add-one, eq-eqb _ _ h.if-label-x.true, node_below)) | else-label-x h ↦ h.at-is ∙ l.invariant ∙ sym (rw (add-one, ne_eqb _ _ h.if-label-x.false, node_below)) ]
