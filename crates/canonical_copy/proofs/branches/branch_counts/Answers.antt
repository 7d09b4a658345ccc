-- What is known where the search needs a hint.
-- Assumes nothing.
use mathlib.Core.Path.{◌≡◌}
use Prim.Native.Nat.{◌<◌}
use native.Mathlib.Omega.{arith}
use lib.ListN.{length}
use Rattle.table_words.specs.Sizes.{node_room}
use Rattle.tree_check.specs.Table.{word}
use Rattle.canonical_copy.proofs.lemmas.Staying.{counts_none, counts_fit, counts_take, counts_skip}
use Rattle.canonical_copy.proofs.branches.branch_counts.Goals.{else-lows-c, then-lows-c, After-from-p}
use Rattle.canonical_copy.proofs.branches.branch_counts.Goals as goal

-- the parent has room, and its count too
fits : (c : After-from-p)
    → (c.from-p.result < node_room) × (word c.loop-c.counts c.from-p.result < node_room)
fits c =
    let l = c.loop-c in
    counts_fit _ _ _ c.requires l.c _ l.auto.c c.loop-c-test.true l.invariant _ c.from-p.ensures

pub loop-c-init : goal.loop-c-init
loop-c-init c = counts_none _ _ _ c.requires

pub bounds-counts-p : goal.bounds-counts-p
bounds-counts-p c = omega (arith, fits c)

pub overflow_add-counts : goal.overflow_add-counts
overflow_add-counts c = omega (arith, fits c)

pub bounds-counts-p-then-lows-c : goal.bounds-counts-p-then-lows-c
bounds-counts-p-then-lows-c c = omega (arith, fits c)

pub loop-c-preserved : goal.loop-c-preserved
loop-c-preserved c =
    let l = c.loop-c in
    elim c.if-lows-c.branch [ then-lows-c h ↦ rw h.counts-is (counts_take _ _ _ c.requires l.c _ l.auto.c c.loop-c-test.true l.invariant _ h.from-p.ensures (omega (arith, h.if-lows-c.true))) | else-lows-c h ↦ rw h.counts-is (counts_skip _ _ _ c.requires l.c _ l.auto.c c.loop-c-test.true l.invariant (omega (arith, h.if-lows-c.false))) ]

pub returns : goal.returns
returns c =
    let l = c.loop-c in
    let e : l.c ≡ length c.args.parents.now = omega (arith, c.loop-c-test.false, c.requires.some) in
    rw e at l.invariant
