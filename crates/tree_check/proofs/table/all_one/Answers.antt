-- What is known where the search needs a hint.
-- Assumes nothing.
use mathlib.Core.Path.{sym}
use native.Mathlib.Omega.{arith}
use borrow.Author.Count.{below_more}
use borrow.Author.Tests.{eq-eqb, ne_eqb}
use Rattle.sums.specs.theorems.TestLaws.{every_true, every-false}
use Rattle.tree_check.proofs.table.all_one.Goals as goal

pub loop-x-init : goal.loop-x-init
loop-x-init c = λ k l. absurd (omega arith)

pub returns-then-counts-x-ne1 : goal.returns-then-counts-x-ne1
returns-then-counts-x-ne1 c =
    sym (every-false _ _ c.loop-x.x c.loop-x-test.true (ne_eqb _ _ c.if-counts-x-ne1.true))

pub loop-x-preserved : goal.loop-x-preserved
loop-x-preserved c = below_more _ _ c.loop-x.invariant (eq-eqb _ _ c.if-counts-x-ne1.false)

pub returns : goal.returns
returns c = sym (every_true _ _ (λ k m. c.loop-x.invariant k (omega (arith, m, c.loop-x-test.false))))
