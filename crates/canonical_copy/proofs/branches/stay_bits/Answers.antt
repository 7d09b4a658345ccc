-- What is known where the search needs a hint.
-- Assumes nothing.
use mathlib.Core.Path.{◌≡◌}
use native.Mathlib.Omega.{arith}
use Rattle.canonical_copy.proofs.lemmas.Staying.{bits_none, bits_next}
use Rattle.canonical_copy.proofs.branches.stay_bits.Goals as goal

pub loop-v-init : goal.loop-v-init
loop-v-init c = bits_none _ _ _

pub loop-v-preserved : goal.loop-v-preserved
loop-v-preserved c =
    let l = c.loop-v in
    bits_next _ _ _ l.v _ _ (omega (arith, c.loop-v-test.true, c.requires)) c.stays.ensures l.invariant

pub returns : goal.returns
returns c =
    let l = c.loop-v in
    let e : l.v ≡ c.args.m = omega (arith, c.loop-v-test.false) in
    rw e at l.invariant
