-- What is known where the search needs a hint.
-- Assumes nothing.
use Rattle.std.proofs.Common.{sym}
use Rattle.walks.specs.theorems.AddUpLaws.{added_up_more}
use Rattle.walks.specs.lemmas.Adding.{left_all, left_none, left_added, left_skipped}
use Rattle.walks.proofs.sizes.add_up.Goals as goal

pub returns-then-parents-gt-NODES : goal.returns-then-parents-gt-NODES
returns-then-parents-gt-NODES c = sym (added_up_more _ _ c.if-parents-gt-NODES.true)

pub loop-i-init : goal.loop-i-init
loop-i-init c = left_all _ _ c.if-parents-gt-NODES.false

pub loop-i-preserved-then-p-i : goal.loop-i-preserved-then-p-i
loop-i-preserved-then-p-i c =
    left_added _ _ _ _ c.loop-i-test.true c.loop-i.invariant _ c.from-p.ensures _
    c.if-p-i.true c.wrapping_add_usize.ensures.value

pub loop-i-preserved : goal.loop-i-preserved
loop-i-preserved c =
    left_skipped _ _ _ _ c.loop-i-test.true c.loop-i.invariant _ c.from-p.ensures
    c.if-p-i.false

pub returns : goal.returns
returns c = left_none _ _ _ _ c.loop-i-test.false c.loop-i.invariant
