-- What is known where the search needs a hint.
-- Assumes nothing.
use Prim.Native.Nat.{◌-◌, ◌<◌}
use native.Mathlib.Omega.{arith}
use Rattle.table_words.specs.Sizes.{node_room}
use Rattle.canonical_copy.proofs.lemmas.Parents.{parent_room}
use Rattle.canonical_copy.proofs.lemmas.LeastBelow.{gathered_none, gathered_all, lows_take, lows_skip}
use Rattle.canonical_copy.proofs.branches.lower.Goals.{After-from-p}
use Rattle.canonical_copy.proofs.branches.lower.Goals as goal

-- the parent has a smaller number
room : (c : After-from-p) → (c.from-p.result < node_room) × (c.loop-c.c - 1 < node_room)
room c =
    let l = c.loop-c in
    let q = parent_room _ c.requires.0 (l.c - 1) (omega (arith, c.loop-c-test.true)) (omega (arith, c.loop-c-test.true, l.auto.c)) in
    omega (arith, q, c.from-p.ensures)

pub loop-c-init : goal.loop-c-init
loop-c-init c = gathered_none _ _ c.requires.0 _ (omega arith)

pub bounds-lows-p : goal.bounds-lows-p
bounds-lows-p c = omega (arith, room (goal.at.bounds-lows-p c).After-from-p)

pub bounds-lows-p-then-low-lows : goal.bounds-lows-p-then-low-lows
bounds-lows-p-then-low-lows c = omega (arith, room (goal.at.bounds-lows-p-then-low-lows c).After-from-p)

pub loop-c-preserved-then-low-lows : goal.loop-c-preserved-then-low-lows
loop-c-preserved-then-low-lows c =
    let l = c.loop-c in
    lows_take _ _ c.requires.0 l.c _ c.loop-c-test.true l.auto.c l.invariant _ c.from-p.ensures (omega (arith, c.requires.1)) (omega (arith, c.if-low-lows.true))

pub loop-c-preserved : goal.loop-c-preserved
loop-c-preserved c =
    let l = c.loop-c in
    lows_skip _ _ c.requires.0 l.c _ c.loop-c-test.true l.auto.c l.invariant _ c.from-p.ensures (omega (arith, c.if-low-lows.false))

pub returns : goal.returns
returns c =
    let l = c.loop-c in
    gathered_all _ _ c.requires.0 _ _ (omega (arith, c.loop-c-test.false)) l.invariant
