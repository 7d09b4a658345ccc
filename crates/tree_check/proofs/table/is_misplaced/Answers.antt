-- `is_misplaced` tells what `misplaced` does, arm by arm.
-- Assumes nothing.
use borrow.Author.Tests.{eq-eqb, ne_eqb, lt-leb, le-leb}
use Rattle.tree_check.specs.TreeOrder.{misplaced}
use Rattle.tree_check.proofs.table.is_misplaced.Goals as goal

pub returns-then-l-eq-INNER : goal.returns-then-l-eq-INNER
unfolding misplaced
returns-then-l-eq-INNER c = rw (eq-eqb _ _ c.if-l-eq-INNER.true, misplaced)

pub returns-then-i-lt1 : goal.returns-then-i-lt1
unfolding misplaced
returns-then-i-lt1 c = rw (ne_eqb _ _ c.if-l-eq-INNER.false, lt-leb _ _ c.if-i-lt1.true, misplaced)

pub returns : goal.returns
unfolding misplaced
returns c = rw (ne_eqb _ _ c.if-l-eq-INNER.false, le-leb _ _ c.if-i-lt1.false, misplaced)
