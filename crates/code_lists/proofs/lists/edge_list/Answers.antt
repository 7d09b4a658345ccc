-- What is known where the search needs a hint.
-- Assumes nothing.
use Prim.Native.Nat.{◌+◌, ◌-◌, ◌<◌}
use mathlib.Core.Path.{◌≡◌, sym}
use native.Mathlib.Omega.{arith}
use lib.ListN.{length, set, length-set}
use Rattle.table_words.specs.lemmas.Rooms.{code_room}
use Rattle.tree_check.specs.Table.{word}
use Rattle.code_lists.specs.lemmas.EdgePlaces.{placed_none, up_fits, down_fits, placed-edge, placed-all}
use Rattle.code_lists.proofs.lists.edge_list.Goals.{After-from-v}
use Rattle.code_lists.proofs.lists.edge_list.Goals as goal

-- ---- what is asked there

-- the list has room for the edge at the parent, ..
up_room : (c : After-from-v)
    → (let l = c.loop-i in
    (word l.next c.from-v.result < length l.edges) × (word l.next c.from-v.result < code_room))
up_room c =
    let l = c.loop-i in
    let m = c.loop-i-test.true in
    let v = c.from-v in
    let u = up_fits c.args.parents.now _ c.requires.parents.0 c.requires.room l.i v.result l.auto.i m
    (sym v.ensures) l.next l.edges l.invariant in
    (omega (arith, u, l.invariant.same, c.requires.room), omega (arith, u, c.requires.parents.0.few))

-- .. and then at node i
down-room : (c : After-from-v)
    → (let l = c.loop-i in
    let next = set l.next c.from-v.result (word l.next c.from-v.result + 1) in
    (word next l.i < length l.edges) × (word next l.i < code_room))
down-room c =
    let l = c.loop-i in
    let m = c.loop-i-test.true in
    let v = c.from-v in
    let u = down_fits c.args.parents.now _ c.requires.parents.0 c.requires.room l.i v.result l.auto.i m
    (sym v.ensures) l.next l.edges l.invariant in
    (omega (arith, u, l.invariant.same, c.requires.room), omega (arith, u, c.requires.parents.0.few))

pub loop-i-init : goal.loop-i-init
loop-i-init c = placed_none _ _ _ c.requires.parents.1

pub offset_bounds-edges-next : goal.offset_bounds-edges-next
offset_bounds-edges-next c = omega (arith, up_room (goal.at.offset_bounds-edges-next c).After-from-v)

pub bounds-edges-next : goal.bounds-edges-next
bounds-edges-next c = omega (arith, up_room (goal.at.bounds-edges-next c).After-from-v)

pub overflow_add-next : goal.overflow_add-next
overflow_add-next c = omega (arith, up_room (goal.at.overflow_add-next c).After-from-v)

pub offset_bounds-edges-next-in-loop-i : goal.offset_bounds-edges-next-in-loop-i
offset_bounds-edges-next-in-loop-i c = omega (arith, down-room (goal.at.offset_bounds-edges-next-in-loop-i c).After-from-v)

pub bounds-edges-next-in-loop-i : goal.bounds-edges-next-in-loop-i
bounds-edges-next-in-loop-i c =
    let l = c.loop-i in
    omega (arith, length-set l.edges (word l.next c.from-v.result) (l.i - 1), down-room (goal.at.bounds-edges-next-in-loop-i c).After-from-v)

pub overflow_add-next-in-loop-i : goal.overflow_add-next-in-loop-i
overflow_add-next-in-loop-i c = omega (arith, down-room (goal.at.overflow_add-next-in-loop-i c).After-from-v)

pub loop-i-preserved : goal.loop-i-preserved
loop-i-preserved c =
    let l = c.loop-i in
    placed-edge c.args.parents.now _ c.requires.parents.0 c.requires.room l.i c.from-v.result l.auto.i
    c.loop-i-test.true (sym c.from-v.ensures) l.next l.edges l.invariant

pub returns : goal.returns
returns c =
    let l = c.loop-i in
    let e : length c.args.parents.now ≡ l.i = omega (arith, c.requires.parents.0.some, c.loop-i-test.false) in
    placed-all _ _ l.next _ (rw e l.invariant)
