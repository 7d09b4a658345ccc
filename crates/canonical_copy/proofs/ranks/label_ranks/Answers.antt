-- What is known where the search needs a hint.
-- Assumes nothing.
use Prim.Native.Nat.{◌<◌}
use native.Mathlib.Omega.{arith}
use Rattle.canonical_copy.proofs.lemmas.Ranks.{ranked_none, rank_few, ranked_take, ranked_skip, ranked_all}
use mathlib.Core.Path.{sym, ◌∙◌}
use Rattle.canonical_copy.proofs.ranks.label_ranks.Goals.{else-is_kept, then-is_kept}
use Rattle.canonical_copy.proofs.ranks.label_ranks.Goals as goal

pub loop-y-init : goal.loop-y-init
loop-y-init c = ranked_none _ _ _ c.requires

pub overflow_add-rank : goal.overflow_add-rank
overflow_add-rank c =
    let l = c.loop-y in
    omega (arith, rank_few _ _ _ c.requires l.y l.rank _ (omega (arith, l.auto.y)) c.loop-y-test.true l.invariant)

pub loop-y-preserved : goal.loop-y-preserved
loop-y-preserved c =
    let l = c.loop-y in
    let m : c.args.x < l.y = omega (arith, l.auto.y) in
    elim c.if-is_kept.branch [
      | then-is_kept h ↦ rw (h.ranks-is, h.rank-is) (ranked_take _ _ _ c.requires l.y l.rank _ m c.loop-y-test.true l.invariant
          (sym c.is_kept.ensures ∙ h.if-is_kept.true))
      | else-is_kept h ↦ rw (h.ranks-is, h.rank-is) (ranked_skip _ _ _ c.requires l.y l.rank _ m c.loop-y-test.true l.invariant
          (sym c.is_kept.ensures ∙ h.if-is_kept.false))
    ]

pub returns : goal.returns
returns c =
    let l = c.loop-y in
    ranked_all _ _ _ c.requires l.y l.rank _ (omega (arith, c.loop-y-test.false)) (omega (arith, c.requires.label)) l.invariant
