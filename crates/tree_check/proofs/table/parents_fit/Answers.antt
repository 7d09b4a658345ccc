-- What is known where the search needs a hint.
-- Assumes nothing.
use mathlib.Core.Path.{◌≡◌, sym, ◌∙◌, ap}
use native.Mathlib.Omega.{arith}
use borrow.Author.Count.{below_more}
use Rattle.sums.specs.theorems.TestLaws.{every_true, every-false}
use Rattle.tree_check.specs.Table.{word}
use Rattle.tree_check.specs.TreeOrder.{parent_fits}
use Rattle.tree_check.proofs.table.parents_fit.Goals.{After-parent_fits}
use Rattle.tree_check.proofs.table.parents_fit.Goals as goal

-- ---- what is known there

-- what the call tells of the word read
told : (c : After-parent_fits)
    → let i = c.loop-i.i in
    parent_fits i (word c.args.parents.now i) ≡ c.parent_fits.result
told c =
    ap (parent_fits c.loop-i.i) (sym c.from.ensures)
    ∙ sym c.parent_fits.ensures

pub loop-i-init : goal.loop-i-init
loop-i-init c = (omega arith, λ k l. absurd (omega arith))

pub returns-then-not-parent_fits : goal.returns-then-not-parent_fits
returns-then-not-parent_fits c =
    sym (every-false _ _ c.loop-i.i c.loop-i-test.true
    (told (goal.at.returns-then-not-parent_fits c).After-parent_fits ∙ c.if-not-parent_fits.true))

pub loop-i-preserved : goal.loop-i-preserved
loop-i-preserved c =
    let l = c.loop-i in
    (omega arith, below_more _ _ l.invariant.1 (told (goal.at.loop-i-preserved c).After-parent_fits ∙ c.if-not-parent_fits.false))

pub returns : goal.returns
returns c =
    let l = c.loop-i in
    sym (every_true _ _ (λ k m. l.invariant.1 k (omega arith)))
