-- What is known where the search needs a hint.
-- Assumes nothing.
use mathlib.Core.Path.{◌≡◌}
use native.Mathlib.Omega.{arith}
use Rattle.median_tree.proofs.lemmas.SameCells.{same_now, same_then}
use Rattle.median_tree.proofs.lemmas.RowSums.{sums_none}
use Rattle.median_tree.proofs.lemmas.Distances.{ready_still}
use Rattle.median_tree.proofs.summed.all_sums.Goals as goal

pub loop-i-init : goal.loop-i-init
loop-i-init c = (sums_none _, same_now _ _)

pub add_row-requires : goal.add_row-requires
add_row-requires c =
    let l = c.loop-i in
    (ready_still c.requires.0 l.invariant.1, omega (arith, c.loop-i-test.true, c.requires.1), l.invariant.0)

pub loop-i-preserved : goal.loop-i-preserved
loop-i-preserved c =
    let l = c.loop-i in
    let r = c.add_row in
    (r.ensures.0, same_then _ _ _ _ l.invariant.1 r.ensures.1)

pub returns : goal.returns
returns c =
    let l = c.loop-i in
    let e : l.i ≡ c.args.k = omega (arith, c.loop-i-test.false) in
    (rw e at l.invariant.0, l.invariant.1)
