-- What is known where the search needs a hint.
-- Assumes nothing.
use mathlib.Core.Path.{◌≡◌}
use Prim.Native.Nat.{◌+◌, ◌-◌, ◌≤◌}
use native.Mathlib.Omega.{arith}
use Rattle.tree_lists.specs.TreeLists.{tree_at}
use Rattle.tree_lists.proofs.lemmas.Starts.{from_to, to_end, lent_tree, told_edges, largest_none, largest_more, largest_same}
use lib.ListN.{length, take, drop}
use Rattle.tree_check.specs.Table.{word}
use Rattle.tree_lists.proofs.checked.most_edges.Goals.{else-most-edges, then-most-edges, In-loop-i}
use Rattle.tree_lists.proofs.checked.most_edges.Goals as goal

-- ---- a table lies within the list

from : (c : In-loop-i)
    → word c.args.starts.now c.loop-i.i ≤ word c.args.starts.now (c.loop-i.i + 1)
from c = from_to c.args.list.now c.requires.0 c.args.k c.args.starts.now c.requires.2 c.loop-i.i c.loop-i-test.true

to : (c : In-loop-i)
    → word c.args.starts.now (c.loop-i.i + 1) ≤ length c.args.list.now
to c = to_end c.args.list.now c.requires.0 c.args.k c.args.starts.now c.requires.2 c.loop-i.i c.loop-i-test.true

lent : (c : In-loop-i) → (let cells = c.args.starts.now in
    let i = c.loop-i.i in
    take (word cells (i + 1) - word cells i) (drop (word cells i) c.args.list.now) ≡ tree_at c.args.list.now i)
lent c = lent_tree c.args.list.now c.requires.0 c.args.k c.args.starts.now c.requires.2 c.loop-i.i c.loop-i-test.true

pub loop-i-init : goal.loop-i-init
loop-i-init c = (largest_none _, omega arith)

pub offset_bounds-list-from : goal.offset_bounds-list-from
offset_bounds-list-from c = omega (arith, from (goal.at.offset_bounds-list-from c).In-loop-i, to (goal.at.offset_bounds-list-from c).In-loop-i)

pub slice_bounds-edges_of-count : goal.slice_bounds-edges_of-count
slice_bounds-edges_of-count c = from (goal.at.slice_bounds-edges_of-count c).In-loop-i

pub slice_bounds-edges_of-start : goal.slice_bounds-edges_of-start
slice_bounds-edges_of-start c = from (goal.at.slice_bounds-edges_of-start c).In-loop-i

pub slice_bounds-edges_of-end : goal.slice_bounds-edges_of-end
slice_bounds-edges_of-end c = to (goal.at.slice_bounds-edges_of-end c).In-loop-i

pub loop-i-preserved : goal.loop-i-preserved
loop-i-preserved c =
    let l = c.loop-i in
    let e = told_edges _ _ _ (lent (goal.at.loop-i-preserved c).In-loop-i) _ c.edges_of-edges.ensures.0 in (
      elim c.if-most-edges.branch [ then-most-edges h ↦ rw h.most-is (largest_more _ _ _ _ l.invariant.0 e h.if-most-edges.true) | else-most-edges h ↦ rw h.most-is (largest_same _ _ _ _ l.invariant.0 e h.if-most-edges.false) ],
      elim c.if-most-edges.branch [ then-most-edges h ↦ rw h.most-is c.edges_of-edges.ensures.1 | else-most-edges h ↦ rw h.most-is l.invariant.1 ],
    )

pub returns : goal.returns
returns c =
    let l = c.loop-i in
    let e : l.i ≡ c.args.k = omega (arith, c.loop-i-test.false) in
    (rw e at l.invariant.0, l.invariant.1)
