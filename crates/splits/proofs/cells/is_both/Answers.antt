-- `is_both` tells what the two tests do, arm by arm.
-- Assumes nothing.
use mathlib.Core.Path.{refl}
use borrow.Author.Tests.{eq-eqb, ne_eqb}
use Rattle.splits.proofs.cells.is_both.Goals as goal

pub returns-then-x-y : goal.returns-then-x-y
returns-then-x-y c = rw (ne_eqb _ _ c.if-x-y.true) refl

pub returns : goal.returns
returns c = rw (eq-eqb _ _ c.if-x-y.false) refl
