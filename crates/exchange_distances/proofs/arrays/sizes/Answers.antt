-- What is known where the search needs a hint.
-- Assumes nothing.
use Prim.Native.Nat.{◌-◌}
use mathlib.Core.Path.{◌≡◌, ap₂}
use native.Mathlib.Omega.{arith}
use Rattle.exchange_distances.specs.lemmas.SpanSizes.{sizes_first, sizes_next}
use Rattle.exchange_distances.proofs.arrays.sizes.Goals as goal

pub loop-v-init : goal.loop-v-init
loop-v-init c = sizes_first c.args.n c.args.begin.now c.args.end.now c.args.size.now c.requires.long

pub bounds-end-v : goal.bounds-end-v
bounds-end-v c = omega (arith, c.loop-v-test.true, c.requires.few.1)

pub bounds-begin-v : goal.bounds-begin-v
bounds-begin-v c = omega (arith, c.loop-v-test.true, c.requires.few.1)

pub overflow_sub-size : goal.overflow_sub-size
overflow_sub-size c =
    omega (
      arith,
      c.cell_index.ensures.0,
      c.cell_index-in-loop-v.ensures.0,
      c.requires.rising _ c.loop-v.auto.v c.loop-v-test.true,
    )

pub offset_bounds-size-v : goal.offset_bounds-size-v
offset_bounds-size-v c = omega (arith, c.loop-v-test.true, c.requires.few.1)

pub bounds-size-v : goal.bounds-size-v
bounds-size-v c = omega (arith, c.loop-v-test.true, c.requires.few.1)

pub loop-v-preserved : goal.loop-v-preserved
loop-v-preserved c =
    let l = c.loop-v in
    sizes_next _ l.v _ _ _ _ l.auto.v (omega (arith, c.loop-v-test.true, c.requires.few.1))
    (ap₂ ◌-◌ c.cell_index.ensures.0 c.cell_index-in-loop-v.ensures.0) l.invariant

pub returns : goal.returns
returns c =
    let l = c.loop-v in
    let e : l.v ≡ c.args.m = omega (arith, c.loop-v-test.false, c.requires.few.0) in
    rw e at l.invariant
