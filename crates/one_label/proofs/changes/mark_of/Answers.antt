-- Two cases.
-- Assumes nothing.
use mathlib.Core.Path.{refl}
use Rattle.sums.specs.Bits.{bit}
use Rattle.one_label.proofs.changes.mark_of.Goals as goal

pub returns-then-restore : goal.returns-then-restore
unfolding bit
returns-then-restore c = rw c.if-restore.true refl

pub returns : goal.returns
unfolding bit
returns c = rw c.if-restore.false refl
