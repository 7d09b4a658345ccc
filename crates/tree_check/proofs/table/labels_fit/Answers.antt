-- `labels_fit` tells what `labels_fit` does, part by part.
-- Assumes nothing.
use mathlib.Core.Path.{sym, ◌∙◌}
use borrow.Author.Tests.{eq-eqb, ne_eqb}
use Rattle.tree_check.specs.TreeOrder.{labels_fit}
use Rattle.tree_check.proofs.table.labels_fit.Goals as goal

pub returns-then-labels-ne0 : goal.returns-then-labels-ne0
unfolding labels_fit
returns-then-labels-ne0 c = rw (ne_eqb _ _ c.if-labels-ne0.true, labels_fit)

pub returns : goal.returns
unfolding labels_fit
returns c = c.labels_in_range.ensures ∙ sym (rw (eq-eqb _ _ c.if-labels-ne0.false, labels_fit))
