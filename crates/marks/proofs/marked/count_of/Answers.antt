-- Each mark adds 1 or nothing, so that the count fits.
-- Assumes nothing.
use mathlib.Core.Path.{◌≡◌}
use native.Mathlib.Omega.{arith}
use lib.ListN.{length}
use Rattle.sums.specs.theorems.CountSteps.{count-start, count_hit, count_miss}
use Rattle.tree_check.specs.Table.{word}
use Rattle.marks.proofs.marked.count_of.Goals.{else-test, then-test}
use Rattle.marks.proofs.marked.count_of.Goals as goal

pub loop-mark-init : goal.loop-mark-init
loop-mark-init g c = (omega arith, λ q p. count-start (λ x. q (word c.args.marks.now x)))

pub loop-mark-preserved : goal.loop-mark-preserved
loop-mark-preserved g c =
    let l = c.loop-mark in
    elim c.if-test.branch [ then-test h ↦ rw h.total-is (omega (arith, l.invariant.0), λ q p. count_hit _ (λ x. q (word c.args.marks.now x)) _ _ (l.invariant.1 q p) (p _ _ c.test.ensures) h.if-test.true) | else-test h ↦ rw h.total-is (omega (arith, l.invariant.0), λ q p. count_miss _ (λ x. q (word c.args.marks.now x)) _ _ (l.invariant.1 q p) (p _ _ c.test.ensures) h.if-test.false) ]

pub returns : goal.returns
returns g c =
    let l = c.loop-mark in
    let e : l.mark-index ≡ length c.args.marks.now = omega (arith, l.auto.mark-index-end, c.loop-mark-test.false) in
    λ q p. rw e at (l.invariant.1 q p)
