-- What is known where the search needs a hint.
-- Assumes nothing.
use mathlib.Core.Path.{◌≡◌, sym, ◌∙◌}
use Prim.Native.Nat.{◌+◌, ◌-◌, ◌≤◌}
use native.Mathlib.Omega.{arith}
use borrow.Author.Count.{below_more}
use Rattle.sums.specs.theorems.TestLaws.{some-true, some-false}
use Rattle.tree_lists.specs.TreeLists.{tree_at}
use Rattle.tree_lists.proofs.lemmas.Starts.{from_to, to_end, lent_tree, told_wrong}
use lib.ListN.{length, take, drop}
use Rattle.tree_check.specs.Table.{word}
use Rattle.tree_lists.proofs.checked.some_wrong.Goals.{In-loop-i}
use Rattle.tree_lists.proofs.checked.some_wrong.Goals as goal

-- ---- a table lies within the list

from : (c : In-loop-i)
    → word c.args.starts.now c.loop-i.i ≤ word c.args.starts.now (c.loop-i.i + 1)
from c = from_to c.args.list.now c.requires.0 c.args.k c.args.starts.now c.requires.2 c.loop-i.i c.loop-i-test.true

to : (c : In-loop-i)
    → word c.args.starts.now (c.loop-i.i + 1) ≤ length c.args.list.now
to c = to_end c.args.list.now c.requires.0 c.args.k c.args.starts.now c.requires.2 c.loop-i.i c.loop-i-test.true

lent : (c : In-loop-i) → (let cells = c.args.starts.now in
    let i = c.loop-i.i in
    take (word cells (i + 1) - word cells i) (drop (word cells i) c.args.list.now) ≡ tree_at c.args.list.now i)
lent c = lent_tree c.args.list.now c.requires.0 c.args.k c.args.starts.now c.requires.2 c.loop-i.i c.loop-i-test.true

pub offset_bounds-list-from : goal.offset_bounds-list-from
offset_bounds-list-from c = omega (arith, from (goal.at.offset_bounds-list-from c).In-loop-i, to (goal.at.offset_bounds-list-from c).In-loop-i)

pub slice_bounds-is_wrong-count : goal.slice_bounds-is_wrong-count
slice_bounds-is_wrong-count c = from (goal.at.slice_bounds-is_wrong-count c).In-loop-i

pub slice_bounds-is_wrong-start : goal.slice_bounds-is_wrong-start
slice_bounds-is_wrong-start c = from (goal.at.slice_bounds-is_wrong-start c).In-loop-i

pub slice_bounds-is_wrong-end : goal.slice_bounds-is_wrong-end
slice_bounds-is_wrong-end c = to (goal.at.slice_bounds-is_wrong-end c).In-loop-i

pub returns-then-is_wrong : goal.returns-then-is_wrong
returns-then-is_wrong c =
    sym (some-true _ _ c.loop-i.i c.loop-i-test.true
    (told_wrong _ _ _ _ (lent (goal.at.returns-then-is_wrong c).In-loop-i) _ c.is_wrong.ensures ∙ c.if-is_wrong.true))

pub loop-i-preserved : goal.loop-i-preserved
loop-i-preserved c =
    below_more _ _ c.loop-i.invariant
    (told_wrong _ _ _ _ (lent (goal.at.loop-i-preserved c).In-loop-i) _ c.is_wrong.ensures ∙ c.if-is_wrong.false)

pub returns : goal.returns
returns c = sym (some-false _ _ (λ j m. c.loop-i.invariant j (omega (arith, m, c.loop-i-test.false))))
