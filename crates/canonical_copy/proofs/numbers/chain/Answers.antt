-- What is known where the search needs a hint.
-- Assumes nothing.
use mathlib.Core.Path.{◌≡◌}
use Prim.Native.Nat.{◌-◌, ◌<◌}
use native.Mathlib.Omega.{arith}
use Rattle.table_words.specs.Sizes.{node_room}
use Rattle.canonical_copy.specs.lemmas.Chains.{chains_none, chains_step}
use Rattle.canonical_copy.proofs.numbers.chain.Goals.{After-from-x}
use Rattle.canonical_copy.proofs.numbers.chain.Goals as goal

-- a smallest rank has a cell
low : (c : After-from-x) → c.from-x.result < node_room
low c =
    let l = c.loop-v in
    omega (arith, c.from-x.ensures, l.invariant.1.lows_few (l.v - 1) (omega (arith, c.loop-v-test.true, l.auto.v)))

pub loop-v-init : goal.loop-v-init
loop-v-init c = (omega (arith, c.requires.some), c.requires, chains_none _ _ _ _ c.requires)

pub bounds-heads-x : goal.bounds-heads-x
bounds-heads-x c = omega (arith, low (goal.at.bounds-heads-x c).After-from-x)

pub bounds-heads-x-in-loop-v : goal.bounds-heads-x-in-loop-v
bounds-heads-x-in-loop-v c = omega (arith, low (goal.at.bounds-heads-x-in-loop-v c).After-from-x)

pub loop-v-preserved : goal.loop-v-preserved
loop-v-preserved c =
    let l = c.loop-v in (
      omega (arith, c.loop-v-test.true),
      l.invariant.1,
      chains_step _ _ l.v _ _ _ _ l.invariant.1 c.loop-v-test.true l.auto.v l.invariant.2 _ _ c.from-x.ensures
          (omega (arith, c.as_word.ensures, l.auto.v, l.invariant.1.few)),
    )

pub returns : goal.returns
returns c =
    let l = c.loop-v in
    let e : l.v ≡ 1 = omega (arith, l.invariant.0, c.loop-v-test.false) in
    rw e at l.invariant.2
