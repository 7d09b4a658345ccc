-- What is known where the search needs a hint.
-- Assumes nothing.
use native.Mathlib.Omega.{arith}
use borrow.Author.Rules.{Fits-under}
use lib.ListN.{length}
use Rattle.median_tree.proofs.lemmas.SameCells.{same_now, same_then}
use Rattle.median_tree.proofs.lemmas.RowSums.{own_fits, other_fits, added, row_done}
use Rattle.median_tree.proofs.lemmas.Distances.{ready_still}
use Rattle.median_tree.proofs.summed.add_row.Goals as goal

pub loop-j-init : goal.loop-j-init
loop-j-init c = (c.requires.2, same_now _ _)

pub pair_distance-d-requires : goal.pair_distance-d-requires
pair_distance-d-requires c =
    (ready_still c.requires.0 c.loop-j.invariant.1, c.requires.1, omega (arith, c.loop-j-test.true, c.requires.1))

pub overflow_add-sums : goal.overflow_add-sums
overflow_add-sums c =
    let l = c.loop-j in
    Fits-under _ _ 3146267521 (own_fits c.args.list.now c.args.starts.now c.args.n (length c.args.work.now) c.requires.0
    c.args.i c.requires.1 l.j c.loop-j-test.true _ l.invariant.0 _ c.pair_distance-d.ensures.0
    _ (omega (arith, c.loop-j-test.true))) tt

pub overflow_add-sums-in-loop-j : goal.overflow_add-sums-in-loop-j
overflow_add-sums-in-loop-j c =
    let l = c.loop-j in
    Fits-under _ _ 3146267521 (other_fits c.args.list.now c.args.starts.now c.args.n (length c.args.work.now) c.requires.0
    c.args.i c.requires.1 l.j c.loop-j-test.true _ l.invariant.0 _ c.pair_distance-d.ensures.0
    _ _ (omega (arith, c.loop-j-test.true)) (omega (arith, c.loop-j-test.true))) tt

pub loop-j-preserved : goal.loop-j-preserved
loop-j-preserved c =
    let l = c.loop-j in (
      added c.args.list.now c.args.starts.now c.args.n (length c.args.work.now) c.requires.0
          c.args.i c.requires.1 l.j c.loop-j-test.true _ l.invariant.0 _ c.pair_distance-d.ensures.0,
      same_then _ _ _ _ l.invariant.1 c.pair_distance-d.ensures.1,
    )

pub returns : goal.returns
returns c =
    let l = c.loop-j in
    (row_done _ _ _ _ c.requires.0 _ c.requires.1 _ _ (omega (arith, c.loop-j-test.false)) l.invariant.0, l.invariant.1)
