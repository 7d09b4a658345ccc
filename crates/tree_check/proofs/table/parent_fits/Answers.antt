-- `parent_fits` tells what `parent_fits` does, arm by arm.
-- Assumes nothing.
use borrow.Author.Tests.{lt-ltb, le-ltb, lt-leb, le-leb}
use Rattle.tree_check.specs.TreeOrder.{parent_fits}
use Rattle.tree_check.proofs.table.parent_fits.Goals as goal

pub returns-then-i-lt2 : goal.returns-then-i-lt2
unfolding parent_fits
returns-then-i-lt2 c = rw (lt-ltb _ _ c.if-i-lt2.true, parent_fits)

pub returns-then-p-lt1 : goal.returns-then-p-lt1
unfolding parent_fits
returns-then-p-lt1 c = rw (le-ltb _ _ c.if-i-lt2.false, lt-leb _ _ c.if-p-lt1.true, parent_fits)

pub returns : goal.returns
unfolding parent_fits
returns c = rw (le-ltb _ _ c.if-i-lt2.false, le-leb _ _ c.if-p-lt1.false, parent_fits)
