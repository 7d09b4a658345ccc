-- What is known where the search needs a hint.
-- Assumes nothing.
use mathlib.Core.Path.{◌≡◌, sym, ◌∙◌, ap}
use native.Mathlib.Omega.{arith}
use borrow.Author.Count.{below_more}
use Rattle.sums.specs.theorems.TestLaws.{every_true, every-false}
use Rattle.tree_check.specs.Table.{word}
use Rattle.tree_check.specs.TreeOrder.{label_fits}
use Rattle.tree_check.proofs.table.labels_in_range.Goals.{After-label_fits}
use Rattle.tree_check.proofs.table.labels_in_range.Goals as goal

-- ---- what is known there

-- what the call tells of the word read
told : (c : After-label_fits)
    → let s = c.args in
    label_fits s.n (word s.labels.now c.loop-label.label-index) ≡ c.label_fits.result
told c =
    ap (label_fits c.args.n) (sym c.from.ensures)
    ∙ sym c.label_fits.ensures

pub loop-label-init : goal.loop-label-init
loop-label-init c = λ k l. absurd (omega arith)

pub returns-then-not-label_fits : goal.returns-then-not-label_fits
returns-then-not-label_fits c =
    sym (every-false _ _ c.loop-label.label-index c.loop-label-test.true
    (told (goal.at.returns-then-not-label_fits c).After-label_fits ∙ c.if-not-label_fits.true))

pub loop-label-preserved : goal.loop-label-preserved
loop-label-preserved c =
    below_more _ _ c.loop-label.invariant (told (goal.at.loop-label-preserved c).After-label_fits ∙ c.if-not-label_fits.false)

pub returns : goal.returns
returns c = sym (every_true _ _ (λ k m. c.loop-label.invariant k (omega (arith, m, c.loop-label-test.false))))
