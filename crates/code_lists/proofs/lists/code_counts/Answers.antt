-- What is known where the search needs a hint.
-- Assumes nothing.
use Prim.Native.Nat.{◌+◌, ◌<◌}
use mathlib.Core.Path.{◌≡◌, sym}
use native.Mathlib.Omega.{arith}
use lib.ListN.{length, set}
use Rattle.table_words.specs.lemmas.Rooms.{code_room}
use Rattle.tree_check.specs.Table.{word}
use Rattle.code_lists.specs.lemmas.CodeCounts.{counted_none, up_few, down_few, counted_edge}
use Rattle.code_lists.proofs.lists.code_counts.Goals.{After-from-v}
use Rattle.code_lists.proofs.lists.code_counts.Goals as goal

-- ---- what is asked there

-- the parent's count is low, ..
up-low : (c : After-from-v) → word c.loop-i.counts c.from-v.result < code_room
up-low c =
    let l = c.loop-i in
    let m = c.loop-i-test.true in
    let v = c.from-v in
    up_few c.args.parents.now c.requires l.i v.result l.auto.i m (sym v.ensures)
    l.counts l.invariant

-- .. and so is then the count of node i
down-low : (c : After-from-v) →
    (let l = c.loop-i in
    word (set l.counts c.from-v.result (word l.counts c.from-v.result + 1)) l.i < code_room)
down-low c =
    let l = c.loop-i in
    let m = c.loop-i-test.true in
    let v = c.from-v in
    down_few c.args.parents.now c.requires l.i v.result l.auto.i m (sym v.ensures)
    l.counts l.invariant

pub loop-i-init : goal.loop-i-init
loop-i-init c = counted_none _ (omega (arith, c.requires.few))

pub overflow_add-counts : goal.overflow_add-counts
overflow_add-counts c = omega (arith, up-low c)

pub overflow_add-counts-in-loop-i : goal.overflow_add-counts-in-loop-i
overflow_add-counts-in-loop-i c = omega (arith, down-low c)

pub loop-i-preserved : goal.loop-i-preserved
loop-i-preserved c =
    let l = c.loop-i in
    let m = c.loop-i-test.true in
    let v = c.from-v in
    counted_edge c.args.parents.now c.requires l.i v.result l.auto.i m (sym v.ensures)
    l.counts l.invariant

pub returns : goal.returns
returns c =
    let l = c.loop-i in
    let e : length c.args.parents.now ≡ l.i = omega (arith, c.requires.some, c.loop-i-test.false) in
    rw e l.invariant
