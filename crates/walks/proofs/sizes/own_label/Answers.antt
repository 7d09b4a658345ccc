-- A label below n is a tip's.
-- Assumes nothing.
use Rattle.std.proofs.Common.{le-ltb, lt-ltb}
use Rattle.sums.specs.Bits.{bit}
use Rattle.walks.proofs.sizes.own_label.Goals as goal

pub returns-then-label-n : goal.returns-then-label-n
unfolding bit
returns-then-label-n c = rw (lt-ltb _ _ c.if-label-n.true, bit)

pub returns : goal.returns
unfolding bit
returns c = rw (le-ltb _ _ c.if-label-n.false, bit)
