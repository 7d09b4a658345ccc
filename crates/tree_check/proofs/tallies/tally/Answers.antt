-- What is known where the search needs a hint.
-- Assumes nothing.
use native.Mathlib.Omega.{arith}
use Rattle.tree_check.specs.lemmas.Tally.{tallied_none, tallied-le, tallied_hit, tallied_skip}
use Rattle.tree_check.proofs.tallies.tally.Goals.{else-w-lt-NODES, then-w-lt-NODES}
use Rattle.tree_check.proofs.tallies.tally.Goals as goal

pub loop-word-init : goal.loop-word-init
loop-word-init c = tallied_none _

pub bounds-counts-w : goal.bounds-counts-w
bounds-counts-w c = omega (arith, c.if-w-lt-NODES.true, c.loop-word.invariant.long)

pub overflow_add-counts : goal.overflow_add-counts
overflow_add-counts c =
    omega (arith, tallied-le _ _ _ c.loop-word.invariant c.from-w.result c.if-w-lt-NODES.true)

pub loop-word-preserved : goal.loop-word-preserved
loop-word-preserved c =
    let t = c.loop-word.invariant in
    let w = c.from-w in
    elim c.if-w-lt-NODES.branch [
      | then-w-lt-NODES h ↦ rw h.counts-is (tallied_hit _ _ _ t w.result w.ensures h.if-w-lt-NODES.true)
      | else-w-lt-NODES h ↦ rw h.counts-is (tallied_skip _ _ _ t (omega (arith, h.if-w-lt-NODES.false, w.ensures)))
    ]
