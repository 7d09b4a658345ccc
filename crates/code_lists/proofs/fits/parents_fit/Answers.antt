-- What is known where the search needs a hint.
-- Assumes nothing.
use mathlib.Core.Path.{sym}
use native.Mathlib.Decide.{ℕ_discrete}
use native.Mathlib.Omega.{arith}
use Rattle.code_lists.specs.lemmas.FitParents.{parents_fit_lem, none_unfit, many_unfit, late_unfit}
use Rattle.code_lists.proofs.fits.parents_fit.Goals as goal

pub returns-then-parents-lt1 : goal.returns-then-parents-lt1
returns-then-parents-lt1 c = sym (none_unfit _ c.if-parents-lt1.true)

pub returns-then-parents-gt-MOST_NODES : goal.returns-then-parents-gt-MOST_NODES
returns-then-parents-gt-MOST_NODES c = sym (many_unfit _ c.if-parents-gt-MOST_NODES.true)

pub returns-then-i-from : goal.returns-then-i-from
returns-then-i-from c =
    sym (late_unfit _ c.loop-i.i c.loop-i.auto.i c.loop-i-test.true
    (omega (arith, c.from.ensures, c.if-i-from.true)))

pub loop-i-preserved : goal.loop-i-preserved
loop-i-preserved c =
    λ k a b.
    elim (ℕ_discrete k c.loop-i.i) [
      | yes e ↦ rw e (omega (arith, c.from.ensures, c.if-i-from.false))
      | no d ↦ c.loop-i.invariant k a (omega (arith, d))
    ]

pub returns : goal.returns
returns c =
    let l = c.loop-i in
    sym (parents_fit_lem _ (record {
      some = omega (arith, c.if-parents-lt1.false);
      few = omega (arith, c.if-parents-gt-MOST_NODES.false);
      before = λ k a b. l.invariant k a (omega (arith, c.loop-i-test.false));
    }))
