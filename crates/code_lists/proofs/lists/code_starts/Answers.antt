-- What is known where the search needs a hint.
-- Assumes nothing.
use mathlib.Core.Path.{◌≡◌}
use lib.ListN.{length}
use native.Mathlib.Omega.{arith}
use Rattle.code_lists.specs.lemmas.CodeCounts.{added_none, added_next, added-all, added_few}
use Rattle.code_lists.proofs.lists.code_starts.Goals.{In-loop-v}
use Rattle.code_lists.proofs.lists.code_starts.Goals as goal

pub loop-v-init : goal.loop-v-init
loop-v-init c = added_none _ _ _ c.requires.parents.1

pub overflow_add-at : goal.overflow_add-at
overflow_add-at c =
    omega (arith, added_few _ _ _ _ _ _ c.loop-v.invariant c.requires.parents.0 c.loop-v-test.true)

pub loop-v-preserved : goal.loop-v-preserved
loop-v-preserved c =
    let t = c.loop-v-test.true in
    added_next _ _ _ _ _ _ c.loop-v.invariant t (omega (arith, c.requires.parents.0.few, t))
    (omega (arith, c.loop-v.invariant.same, c.requires.room, t))

pub returns : goal.returns
returns c =
    let l = c.loop-v in
    let e : l.v ≡ length c.args.parents.now = omega (arith, c.loop-v-test.false) in
    added-all _ _ _ _ _ _ (rw e at l.invariant) (omega arith) (omega (arith, l.invariant.same, c.requires.room))
