-- `nodes_fit` tells what `nodes_fit` does, arm by arm.
-- Assumes nothing.
use borrow.Author.Tests.{lt-leb, le-leb}
use Rattle.tree_check.specs.TreeOrder.{nodes_fit}
use Rattle.tree_check.proofs.table.nodes_fit.Goals as goal

pub returns-then-m-n : goal.returns-then-m-n
unfolding nodes_fit
returns-then-m-n c = rw (lt-leb _ _ c.if-m-n.true, nodes_fit)

pub returns : goal.returns
unfolding nodes_fit
returns c = rw (le-leb _ _ c.if-m-n.false, nodes_fit)
