-- What is known where the search needs a hint.
-- Assumes nothing.
use native.Mathlib.Omega.{arith}
use Rattle.canonical_copy.specs.lemmas.Numbering.{going_first, going_all}
use Rattle.canonical_copy.proofs.numbers.numbers.Goals as goal

pub loop-x-init : goal.loop-x-init
loop-x-init c = going_first _ _ _ _ _

pub number_round-requires : goal.number_round-requires
number_round-requires c =
    let l = c.loop-x in
    record { ready = c.requires.ready; rank = omega (arith, c.loop-x-test.true, c.requires.ranks); going = l.invariant }

pub returns : goal.returns
returns c =
    let l = c.loop-x in
    going_all _ _ _ _ _ _ l.x _ _ (omega (arith, c.loop-x-test.false)) l.invariant
