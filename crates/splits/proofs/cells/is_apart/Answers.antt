-- `is_apart` tells what the two tests do, arm by arm.
-- Assumes nothing.
use mathlib.Core.Path.{refl}
use borrow.Author.Tests.{eq-eqb, ne_eqb}
use Rattle.splits.proofs.cells.is_apart.Goals as goal

pub returns-then-cell-ne0 : goal.returns-then-cell-ne0
returns-then-cell-ne0 c = rw (ne_eqb _ _ c.if-cell-ne0.true) refl

pub returns : goal.returns
returns c = rw (eq-eqb _ _ c.if-cell-ne0.false, c.cell_count.ensures.0, c.cell_count-2.ensures.0) refl
