-- What is known where the search needs a hint.
-- Assumes nothing.
use mathlib.Core.Path.{◌≡◌}
use native.Mathlib.Omega.{arith}
use lib.ListN.{length}
use Rattle.canonical_copy.proofs.lemmas.Ranks.{nodes_none, nodes-take, nodes_skip}
use Rattle.canonical_copy.proofs.ranks.node_ranks.Goals.{else-y-lt-TIPS, then-y-lt-TIPS}
use Rattle.canonical_copy.proofs.ranks.node_ranks.Goals as goal

pub loop-v-init : goal.loop-v-init
loop-v-init c = nodes_none _ _ _

pub loop-v-preserved : goal.loop-v-preserved
loop-v-preserved c =
    let w = c.from-y in
    let l = c.loop-v in
    elim c.if-y-lt-TIPS.branch [
      | then-y-lt-TIPS h ↦ rw h.at-is (nodes-take _ _ _ l.v _ (omega (arith, c.loop-v-test.true, c.requires)) l.invariant w.result w.ensures h.if-y-lt-TIPS.true)
      | else-y-lt-TIPS h ↦ rw h.at-is (nodes_skip _ _ _ l.v _ (omega (arith, c.loop-v-test.true, c.requires)) l.invariant w.result w.ensures
          (omega (arith, h.if-y-lt-TIPS.false)))
    ]

pub returns : goal.returns
returns c =
    let l = c.loop-v in
    let e : l.v ≡ length c.args.labels.now = omega (arith, c.loop-v-test.false) in
    rw e at l.invariant
