-- What is known where the search needs a hint.
-- Assumes nothing.
use mathlib.Core.Path.{sym, subst}
use mathlib.Core.Logic.{inl, inr}
use Prim.Native.Nat.{ℕ, ◌<◌}
use native.Mathlib.Omega.{arith}
use Rattle.kept_triplets.specs.lemmas.Weighing.{SpanFilled, filled_none, filled_next, filled-all}
use Rattle.kept_triplets.proofs.places.fill_span.Goals.{In-loop-k}
use Rattle.kept_triplets.proofs.places.fill_span.Goals as goal

low : (c : In-loop-k) → c.loop-k.k < 256
low c = omega (arith, c.loop-k-test.true, c.cell_index-k-end.ensures.1)

pub loop-k-init : goal.loop-k-init
loop-k-init c =
    let e = c.cell_index-k.ensures.0 in (
      inr e,
      subst (λ (k : ℕ). SpanFilled c.args.begin c.args.end k c.args.value c.args.weights.now c.args.weights.now) (sym e)
          (filled_none _ _ _ _ c.requires),
    )

pub offset_bounds-weights-k : goal.offset_bounds-weights-k
offset_bounds-weights-k c = omega (arith, low c)

pub bounds-weights-k : goal.bounds-weights-k
bounds-weights-k c = low (goal.at.bounds-weights-k c).In-loop-k

pub loop-k-preserved : goal.loop-k-preserved
loop-k-preserved c =
    let l = c.loop-k.invariant in (
      inl (omega (arith, c.loop-k-test.true, c.cell_index-k-end.ensures.0)),
      filled_next _ _ _ _ _ _ (omega (arith, c.loop-k.auto.k, c.cell_index-k.ensures.0)) (low (goal.at.loop-k-preserved c).In-loop-k) l.1,
    )

pub returns : goal.returns
returns c =
    let l = c.loop-k.invariant in
    filled-all _ _ _ _ _ _ (omega (arith, c.loop-k-test.false, c.cell_index-k-end.ensures.0)) l.0 l.1
