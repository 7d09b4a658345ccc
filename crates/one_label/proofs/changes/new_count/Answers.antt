-- The sum or the difference.
-- Assumes nothing.
use mathlib.Core.Path.{refl}
use native.Mathlib.Omega.{arith}
use Rattle.one_label.specs.Changes.{new_count}
use Rattle.one_label.proofs.changes.new_count.Goals as goal

pub overflow_add-result : goal.overflow_add-result
overflow_add-result c = omega (arith, c.requires.more_fits c.if-restore.true)

pub returns-then-restore : goal.returns-then-restore
unfolding new_count
returns-then-restore c = rw c.if-restore.true refl

pub overflow_sub-result : goal.overflow_sub-result
overflow_sub-result c = c.requires.less_fits c.if-restore.false

pub returns : goal.returns
unfolding new_count
returns c = rw c.if-restore.false refl
