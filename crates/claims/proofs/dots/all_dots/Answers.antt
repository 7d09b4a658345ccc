-- What is known where the search needs a hint.
-- Assumes nothing.
use mathlib.Core.Path.{◌≡◌, refl, ◌∙◌}
use native.Mathlib.Omega.{arith}
use Rattle.sums.specs.theorems.SumLaws.{sum_step}
use Rattle.sums.specs.Sum.{sum}
use Rattle.claims.specs.lemmas.LineDots.{dot_squares_of, term_squares_of, fewer_lines, dot_squares-lines}
use Rattle.claims.specs.lemmas.LineDots.{term_squares-lines}
use Rattle.claims.proofs.dots.all_dots.Goals as goal

pub loop-i-init : goal.loop-i-init
unfolding sum
loop-i-init c = (refl, refl, omega arith, omega arith)

pub line_dots-line-requires : goal.line_dots-line-requires
line_dots-line-requires c =
    let p = c.requires in
    (fewer_lines _ _ _ _ _ _ c.loop-i-test.true p.0, omega (arith, c.loop-i.auto.dots, p.1))

pub overflow_add-squares : goal.overflow_add-squares
overflow_add-squares c =
    omega (arith, c.requires.0.count_few, c.loop-i.invariant.2, c.line_dots-line.ensures.2)

pub overflow_add-terms : goal.overflow_add-terms
overflow_add-terms c =
    omega (arith, c.requires.0.count_few, c.loop-i.invariant.3, c.line_dots-line.ensures.3)

pub loop-i-preserved : goal.loop-i-preserved
loop-i-preserved c =
    let p = c.args in
    let v = c.loop-i.invariant in
    let e = c.line_dots-line.ensures in (
      sum_step _ (λ i. dot_squares_of p.cells.now p.gap p.step i p.len) _ _ v.0 e.0,
      sum_step _ (λ i. term_squares_of p.cells.now p.gap p.step i p.len) _ _ v.1 e.1,
      omega (arith, v.2, e.2),
      omega (arith, v.3, e.3),
    )

pub returns : goal.returns
returns c =
    let l = c.loop-i in
    let e : l.i ≡ c.args.lines = omega arith in (
      rw e at l.invariant.0 ∙ dot_squares-lines c.args.cells.now c.args.gap c.args.step _ _,
      rw e at l.invariant.1 ∙ term_squares-lines c.args.cells.now c.args.gap c.args.step _ _,
      omega (arith, l.invariant.2, c.requires.0.count_few),
      omega (arith, l.invariant.3, c.requires.0.count_few),
    )
