-- What is known where the search needs a hint.
-- Assumes nothing.
use mathlib.Core.Path.{◌≡◌}
use Prim.Native.Nat.{◌≤◌}
use native.Mathlib.Omega.{arith}
use lib.ListN.{length}
use Rattle.tree_lists.proofs.theorems.ListLaws.{start_inside}
use Rattle.tree_lists.proofs.lemmas.Starts.{starts_first, starts_next, start_after, first-start}
use Rattle.tree_lists.proofs.cut.starts_of.Goals.{At-loop-i}
use Rattle.tree_lists.proofs.cut.starts_of.Goals as goal

pub loop-i-init : goal.loop-i-init
loop-i-init c = (first-start _, starts_first _)

inside : (c : At-loop-i) → c.loop-i.at ≤ length c.args.list.now
inside c = omega (arith, c.loop-i.invariant.0, start_inside c.args.list.now c.requires.0 c.loop-i.i)

pub offset_bounds-list-at : goal.offset_bounds-list-at
offset_bounds-list-at c = omega (arith, inside (goal.at.offset_bounds-list-at c).At-loop-i)

pub slice_bounds-table_length-count : goal.slice_bounds-table_length-count
slice_bounds-table_length-count c = omega (arith, inside (goal.at.slice_bounds-table_length-count c).At-loop-i)

pub slice_bounds-table_length-start : goal.slice_bounds-table_length-start
slice_bounds-table_length-start c = omega (arith, inside (goal.at.slice_bounds-table_length-start c).At-loop-i)

pub loop-i-preserved : goal.loop-i-preserved
loop-i-preserved c =
    let t = c.loop-i-test.true in
    let e = start_after c.args.list.now c.loop-i.i c.loop-i.at c.table_length-at.result c.loop-i.invariant.0 c.table_length-at.ensures.0 in
    (e, starts_next _ c.loop-i.i _ _ (omega (arith, t, c.requires.1)) e c.loop-i.invariant.1)

pub returns : goal.returns
returns c =
    let l = c.loop-i in
    let e : l.i ≡ c.args.k = omega (arith, c.loop-i-test.false) in
    rw e at l.invariant.1
