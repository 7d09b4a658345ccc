-- What is known where the search needs a hint.
-- Assumes nothing.
use mathlib.Core.Path.{◌≡◌, refl}
use native.Mathlib.Omega.{arith}
use lib.ListN.{length}
use Rattle.exchange_distances.specs.lemmas.SquareLoops.{rest_none, rest_next, size-le, rest_square}
use Rattle.exchange_distances.proofs.arrays.square_rest.Goals as goal

pub loop-v-init : goal.loop-v-init
loop-v-init c = rest_none _ _ _ c.requires.1

pub offset_bounds-size-v : goal.offset_bounds-size-v
offset_bounds-size-v c = omega (arith, c.requires.0.nodes)

pub bounds-size-v : goal.bounds-size-v
bounds-size-v c = omega (arith, c.requires.0.nodes)

pub overflow_sub-rest : goal.overflow_sub-rest
overflow_sub-rest c = size-le _ _ _ c.requires.0 _ c.loop-v-test.true

pub overflow_mul-square : goal.overflow_mul-square
overflow_mul-square c =
    omega (arith, rest_square _ _ _ c.requires.0 c.loop-v.v)

pub offset_bounds-square-v : goal.offset_bounds-square-v
offset_bounds-square-v c = omega (arith, c.requires.0.nodes)

pub bounds-square-v : goal.bounds-square-v
bounds-square-v c = omega (arith, c.requires.0.nodes)

pub loop-v-preserved : goal.loop-v-preserved
loop-v-preserved c =
    let l = c.loop-v in
    rest_next _ _ l.v _ _ (omega (arith, c.requires.0.nodes)) refl l.invariant

pub returns : goal.returns
returns c =
    let l = c.loop-v in
    let e : l.v ≡ length c.args.parents.now = omega arith in
    rw e at l.invariant
