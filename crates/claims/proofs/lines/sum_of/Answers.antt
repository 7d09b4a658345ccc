-- Each term is low, so that all of them fit.
-- Assumes nothing.
use mathlib.Core.Path.{◌≡◌, refl}
use native.Mathlib.Omega.{arith}
use Rattle.sums.specs.theorems.SumLaws.{sum_step}
use Rattle.sums.specs.Sum.{sum}
use Rattle.claims.proofs.lines.sum_of.Goals as goal

pub loop-a-init : goal.loop-a-init
unfolding sum
loop-a-init g c = (omega arith, λ f p. refl)

pub overflow_add-s : goal.overflow_add-s
overflow_add-s g c = omega (arith, c.requires.low _ _ c.loop-a-test.true c.term-s.ensures, c.requires.few)

pub loop-a-preserved : goal.loop-a-preserved
loop-a-preserved g c =
    let i = c.loop-a-test.true in (
      omega (arith, c.requires.low _ _ i c.term-s.ensures),
      λ f p. sum_step _ f _ _ (c.loop-a.invariant.1 f p) (p _ _ i c.term-s.ensures),
    )

pub returns : goal.returns
returns g c =
    let e : c.loop-a.a ≡ c.args.len = omega arith in
    λ f p. rw e at (c.loop-a.invariant.1 f p)
