-- `are_halves` tells what the two tests do, arm by arm.
-- Assumes nothing.
use mathlib.Core.Path.{refl}
use borrow.Author.Tests.{eq-eqb, ne_eqb}
use Rattle.splits.proofs.cells.are_halves.Goals as goal

pub returns-then-one_parent-other_parent : goal.returns-then-one_parent-other_parent
returns-then-one_parent-other_parent c = rw (ne_eqb _ _ c.if-one_parent-other_parent.true) refl

pub returns : goal.returns
returns c = rw (eq-eqb _ _ c.if-one_parent-other_parent.false, c.cell_count.ensures.0, c.cell_count-2.ensures.0) refl
