-- Each index adds 1 or nothing, so that the count fits.
-- Assumes nothing.
use mathlib.Core.Path.{◌≡◌}
use native.Mathlib.Omega.{arith}
use Rattle.sums.specs.theorems.CountSteps.{count-start, count_hit, count_miss}
use Rattle.splits.proofs.cells.count_of.Goals.{else-test, then-test}
use Rattle.splits.proofs.cells.count_of.Goals as goal

pub loop-i-init : goal.loop-i-init
loop-i-init g c = (omega arith, λ q p. count-start q)

pub loop-i-preserved : goal.loop-i-preserved
loop-i-preserved g c =
    let l = c.loop-i in
    elim c.if-test.branch [ then-test h ↦ rw h.total-is (omega (arith, l.invariant.0), λ q p. count_hit _ q _ _ (l.invariant.1 q p) (p _ _ c.loop-i-test.true c.test.ensures) h.if-test.true) | else-test h ↦ rw h.total-is (omega (arith, l.invariant.0), λ q p. count_miss _ q _ _ (l.invariant.1 q p) (p _ _ c.loop-i-test.true c.test.ensures) h.if-test.false) ]

pub returns : goal.returns
returns g c =
    let e : c.loop-i.i ≡ c.args.len = omega arith in
    λ q p. rw e at (c.loop-i.invariant.1 q p)
