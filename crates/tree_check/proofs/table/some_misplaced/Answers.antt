-- What is known where the search needs a hint.
-- Assumes nothing.
use mathlib.Core.Path.{◌≡◌, sym, ◌∙◌, ap₂}
use native.Mathlib.Omega.{arith}
use borrow.Author.Count.{below_more}
use Rattle.sums.specs.theorems.TestLaws.{some-true, some-false}
use Rattle.tree_check.specs.Table.{word}
use Rattle.tree_check.specs.TreeOrder.{misplaced}
use Rattle.tree_check.proofs.table.some_misplaced.Goals.{After-is_misplaced}
use Rattle.tree_check.proofs.table.some_misplaced.Goals as goal

-- ---- what is known there

-- what the call tells of the two words read
told : (c : After-is_misplaced)
    → let s = c.args in
    misplaced c.loop-i.i (word s.labels.now c.loop-i.i) (word s.kids.now c.loop-i.i)
    ≡ c.is_misplaced.result
told c =
    ap₂ (misplaced c.loop-i.i)
    (sym c.from.ensures)
    (sym c.from-in-loop-i.ensures)
    ∙ sym c.is_misplaced.ensures

pub loop-i-init : goal.loop-i-init
loop-i-init c = (omega arith, λ k l. absurd (omega arith))

pub returns-then-is_misplaced : goal.returns-then-is_misplaced
returns-then-is_misplaced c =
    sym (some-true _ _ c.loop-i.i c.loop-i-test.true
    (told (goal.at.returns-then-is_misplaced c).After-is_misplaced ∙ c.if-is_misplaced.true))

pub loop-i-preserved : goal.loop-i-preserved
loop-i-preserved c =
    let l = c.loop-i in
    (omega arith, below_more _ _ l.invariant.1 (told (goal.at.loop-i-preserved c).After-is_misplaced ∙ c.if-is_misplaced.false))

pub returns : goal.returns
returns c =
    let l = c.loop-i in
    sym (some-false _ _ (λ k m. l.invariant.1 k (omega arith)))
