-- `tips_fit` tells what `tips_fit` does, arm by arm.
-- Assumes nothing.
use borrow.Author.Tests.{lt-leb, le-leb}
use Rattle.tree_check.specs.TreeOrder.{tips_fit}
use Rattle.tree_check.proofs.table.tips_fit.Goals as goal

pub returns-then-n-lt2 : goal.returns-then-n-lt2
unfolding tips_fit
returns-then-n-lt2 c = rw (lt-leb _ _ c.if-n-lt2.true, tips_fit)

pub returns : goal.returns
unfolding tips_fit
returns c = rw (le-leb _ _ c.if-n-lt2.false, tips_fit)
