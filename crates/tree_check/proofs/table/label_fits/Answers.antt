-- `label_fits` tells what `label_fits` does, arm by arm.
-- Assumes nothing.
use borrow.Author.Tests.{eq-eqb, ne_eqb}
use Rattle.tree_check.specs.TreeOrder.{label_fits}
use Rattle.tree_check.proofs.table.label_fits.Goals as goal

pub returns-then-l-eq-INNER : goal.returns-then-l-eq-INNER
unfolding label_fits
returns-then-l-eq-INNER c = rw (eq-eqb _ _ c.if-l-eq-INNER.true, label_fits)

pub returns : goal.returns
unfolding label_fits
returns c = rw (ne_eqb _ _ c.if-l-eq-INNER.false, label_fits)
