-- What is known where the search needs a hint.
-- Assumes nothing.
use mathlib.Core.Path.{◌≡◌}
use Prim.Native.Nat.{◌<◌}
use native.Mathlib.Omega.{arith}
use lib.ListN.{length}
use Rattle.table_words.specs.Sizes.{node_room}
use Rattle.canonical_copy.proofs.lemmas.Parents.{up_room}
use Rattle.canonical_copy.proofs.lemmas.ParentNumbers.{above_none, above_take, above_skip}
use Rattle.canonical_copy.proofs.words.parent_numbers.Goals.{else-bits-p-eq1, then-bits-p-eq1, After-from-p}
use Rattle.canonical_copy.proofs.words.parent_numbers.Goals as goal

-- the parent has a cell
room : (c : After-from-p) → (c.from-p.result < node_room) × (c.loop-v.v < node_room)
room c =
    let l = c.loop-v in
    let q = up_room _ c.requires l.v c.loop-v-test.true in
    omega (arith, q, c.from-p.ensures)

pub loop-v-init : goal.loop-v-init
loop-v-init c = above_none _ _ _

pub bounds-bits-p : goal.bounds-bits-p
bounds-bits-p c = omega (arith, room (goal.at.bounds-bits-p c).After-from-p)

pub bounds-numbers-p : goal.bounds-numbers-p
bounds-numbers-p c = omega (arith, room (goal.at.bounds-numbers-p c).After-from-p)

pub bounds-above-v : goal.bounds-above-v
bounds-above-v c = omega (arith, room (goal.at.bounds-above-v c).After-from-p)

pub bounds-above-p : goal.bounds-above-p
bounds-above-p c = omega (arith, room (goal.at.bounds-above-p c).After-from-p)

pub bounds-above-v-else-bits-p-eq1 : goal.bounds-above-v-else-bits-p-eq1
bounds-above-v-else-bits-p-eq1 c = omega (arith, room (goal.at.bounds-above-v-else-bits-p-eq1 c).After-from-p)

pub loop-v-preserved : goal.loop-v-preserved
loop-v-preserved c =
    let l = c.loop-v in
    elim c.if-bits-p-eq1.branch [ then-bits-p-eq1 h ↦ rw h.above-is (above_take _ _ _ c.requires l.v _ c.loop-v-test.true l.invariant _ c.from-p.ensures h.if-bits-p-eq1.true) | else-bits-p-eq1 h ↦ rw h.above-is (above_skip _ _ _ c.requires l.v _ c.loop-v-test.true l.invariant _ c.from-p.ensures h.if-bits-p-eq1.false) ]

pub returns : goal.returns
returns c =
    let l = c.loop-v in
    let e : l.v ≡ length c.args.parents.now = omega (arith, c.loop-v-test.false) in
    rw e at l.invariant
