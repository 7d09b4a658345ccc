-- What is known where the search needs a hint.
-- Assumes nothing.
use mathlib.Core.Path.{refl}
use Prim.Native.Nat.{◌+◌, ◌≤◌, ◌<◌}
use native.Mathlib.Omega.{arith}
use Rattle.table_words.specs.Sizes.{node_room}
use Rattle.tree_check.specs.Table.{word}
use Rattle.canonical_copy.specs.lemmas.Numbering.{turn_first, turn_fits, turn_later, turn_next, turn_last}
use Rattle.canonical_copy.proofs.numbers.number_round.Goals.{After-from-p, After-number-1}
use Rattle.canonical_copy.proofs.numbers.number_round.Goals as goal

pub bounds-heads-x : goal.bounds-heads-x
bounds-heads-x c = let r = c.requires in omega (arith, r.rank, r.ready.labels)

-- the parent has a cell, and the sums fit
fits : (c : After-number-1)
    → let a = c.from-p.result in
    let f = word c.loop-v.frees a in
    (a < node_room) × (c.loop-v.v < node_room) × (f + word c.args.bits.now c.loop-v.v ≤ 1025)
    × (f + word c.args.sizes.now c.loop-v.v ≤ node_room)
fits c =
    let r = c.requires in
    turn_fits _ _ _ _ _ _ r.ready r.rank c.loop-v.v _ _ c.loop-v.invariant c.loop-v-test.true _ _ c.from-p.ensures refl

-- the parent has a cell
low : (c : After-from-p) → (c.from-p.result < node_room) × (c.loop-v.v < node_room)
low c =
    let r = c.requires in
    let q = turn_fits _ _ _ _ _ _ r.ready r.rank c.loop-v.v _ _ c.loop-v.invariant c.loop-v-test.true _ _ c.from-p.ensures refl in
    (q.0, q.1)

pub loop-v-init : goal.loop-v-init
loop-v-init c = turn_first _ _ _ _ _ _ _ _ c.requires _ c.from-v.ensures

pub bounds-frees-p : goal.bounds-frees-p
bounds-frees-p c = omega (arith, low (goal.at.bounds-frees-p c).After-from-p)

pub overflow_add-frees : goal.overflow_add-frees
overflow_add-frees c = omega (arith, fits (goal.at.overflow_add-frees c).After-number-1)

pub overflow_add-frees-in-loop-v : goal.overflow_add-frees-in-loop-v
overflow_add-frees-in-loop-v c = omega (arith, fits (goal.at.overflow_add-frees-in-loop-v c).After-number-1)

pub bounds-frees-p-in-loop-v : goal.bounds-frees-p-in-loop-v
bounds-frees-p-in-loop-v c = omega (arith, fits (goal.at.bounds-frees-p-in-loop-v c).After-number-1)

pub loop-v-smaller : goal.loop-v-smaller
loop-v-smaller c =
    let r = c.requires in
    let q = turn_later _ _ _ _ _ _ r.ready r.rank c.loop-v.v _ _ c.loop-v.invariant c.loop-v-test.true _ c.from-v-in-loop-v.ensures in
    omega (arith, q, c.loop-v-test.true)

pub loop-v-preserved : goal.loop-v-preserved
loop-v-preserved c =
    let r = c.requires in
    turn_next _ _ _ _ _ _ _ _ c.loop-v.v c.loop-v.invariant c.loop-v-test.true r.ready r.rank _ _ _ c.from-p.ensures refl
    c.from-v-in-loop-v.ensures

pub returns : goal.returns
returns c = turn_last _ _ _ _ _ _ _ _ _ c.loop-v.invariant (omega (arith, c.loop-v-test.false))
