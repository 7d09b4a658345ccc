-- The parents first, then the cells.
-- Assumes nothing.
use Prim.Native.Nat.{◌≤◌}
use mathlib.Core.Path.{sym, ◌∙◌}
use native.Mathlib.Decide.{dec_lt}
use native.Mathlib.Nat.{lt_of_not-le}
use native.Mathlib.Omega.{arith}
use Rattle.code_lists.specs.ListedCodes.{codes_of}
use Rattle.code_lists.specs.lemmas.CodesAt.{Parents}
use Rattle.code_lists.specs.lemmas.FitParents.{fit_parents, codes_fit_lem, codes_unfit, starts_unfit, edges_unfit}
use Rattle.code_lists.specs.lemmas.Passed.{le-true, le-false}
use Rattle.code_lists.proofs.fits.codes_fit.Goals.{Else-starts-parents}
use Rattle.code_lists.proofs.fits.codes_fit.Goals as goal

-- the parents fit where the first test is passed
parents : (c : Else-starts-parents) → Parents c.args.parents.now
parents c = fit_parents _ (sym c.parents_fit.ensures ∙ c.if-not-parents_fit.false)

pub returns-then-not-parents_fit : goal.returns-then-not-parents_fit
returns-then-not-parents_fit c = sym (codes_unfit _ _ _ (sym c.parents_fit.ensures ∙ c.if-not-parents_fit.true))

pub returns-then-starts-parents : goal.returns-then-starts-parents
returns-then-starts-parents c = sym (starts_unfit _ _ _ c.if-starts-parents.true)

pub overflow_sub-result : goal.overflow_sub-result
overflow_sub-result c = omega (arith, (parents c).some)

pub returns : goal.returns
returns c =
    let a = c.args in
    let ps = a.parents.now in
    elim (dec_lt a.edges (codes_of ps)) [
      | yes l ↦ le-false (codes_of ps) a.edges l ∙ sym (edges_unfit ps a.starts a.edges l)
      | no l ↦ (let m : codes_of ps ≤ a.edges = omega (arith, lt_of_not-le l) in
          le-true (codes_of ps) a.edges m ∙ sym (codes_fit_lem ps a.starts a.edges (parents c) c.if-starts-parents.false m))
    ]
