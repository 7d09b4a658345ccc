-- What is known where the search needs a hint.
-- Assumes nothing.
use mathlib.Core.Path.{◌≡◌}
use native.Mathlib.Omega.{arith}
use Rattle.median_tree.proofs.lemmas.RowSums.{least_none, least_takes, least_keeps}
use Rattle.median_tree.proofs.summed.first_least.Goals.{else-is_less, then-is_less}
use Rattle.median_tree.proofs.summed.first_least.Goals as goal

pub loop-i-init : goal.loop-i-init
loop-i-init c = (least_none _, omega (arith, c.requires.0))

pub loop-i-preserved : goal.loop-i-preserved
loop-i-preserved c =
    let l = c.loop-i in (
      elim c.if-is_less.branch [ then-is_less h ↦ rw h.p-is (least_takes _ _ _ l.invariant.0 h.if-is_less.true) | else-is_less h ↦ rw h.p-is (least_keeps _ _ _ l.invariant.0 h.if-is_less.false) ],
      elim c.if-is_less.branch [ then-is_less h ↦ rw h.p-is c.loop-i-test.true | else-is_less h ↦ rw h.p-is l.invariant.1 ],
    )

pub returns : goal.returns
returns c =
    let l = c.loop-i in
    let e : l.i ≡ c.args.k = omega (arith, c.loop-i-test.false) in
    (rw e at l.invariant.0, l.invariant.1)
