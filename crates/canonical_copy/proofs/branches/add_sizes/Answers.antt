-- What is known where the search needs a hint.
-- Assumes nothing.
use mathlib.Core.Path.{◌≡◌}
use Prim.Native.Nat.{◌+◌, ◌-◌, ◌≤◌, ◌<◌}
use native.Mathlib.Omega.{arith}
use Rattle.table_words.specs.Sizes.{node_room}
use Rattle.tree_check.specs.Table.{word}
use Rattle.canonical_copy.proofs.lemmas.Staying.{sizes_none, sizes_fit, sizes_next}
use Rattle.canonical_copy.proofs.branches.add_sizes.Goals.{After-from-p}
use Rattle.canonical_copy.proofs.branches.add_sizes.Goals as goal

-- the parent has room for both
fits : (c : After-from-p)
    → let l = c.loop-c in
    (c.from-p.result < node_room) × (word l.sizes c.from-p.result + word l.sizes (l.c - 1) ≤ node_room)
fits c =
    let l = c.loop-c in
    sizes_fit _ _ c.requires.0 c.requires.1 l.c _ c.loop-c-test.true l.auto.c l.invariant.1 _ c.from-p.ensures

pub loop-c-init : goal.loop-c-init
loop-c-init c = (omega (arith, c.requires.0.some), sizes_none _ _ c.requires.0 c.requires.1)

pub bounds-sizes-p : goal.bounds-sizes-p
bounds-sizes-p c = omega (arith, fits (goal.at.bounds-sizes-p c).After-from-p)

pub overflow_add-sizes : goal.overflow_add-sizes
overflow_add-sizes c = omega (arith, fits (goal.at.overflow_add-sizes c).After-from-p)

pub bounds-sizes-p-in-loop-c : goal.bounds-sizes-p-in-loop-c
bounds-sizes-p-in-loop-c c = omega (arith, fits (goal.at.bounds-sizes-p-in-loop-c c).After-from-p)

pub loop-c-preserved : goal.loop-c-preserved
loop-c-preserved c =
    let l = c.loop-c in (
      omega (arith, c.loop-c-test.true),
      sizes_next _ _ c.requires.0 c.requires.1 l.c _ c.loop-c-test.true l.auto.c l.invariant.1 _ c.from-p.ensures,
    )

pub returns : goal.returns
returns c =
    let l = c.loop-c in
    let e : l.c ≡ 1 = omega (arith, l.invariant.0, c.loop-c-test.false) in
    rw e at l.invariant.1
