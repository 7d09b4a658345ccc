-- What is known where the search needs a hint.
-- Assumes nothing.
use mathlib.Core.Path.{◌≡◌, sym, ◌∙◌}
use native.Mathlib.Omega.{arith}
use borrow.Author.Count.{below_more}
use Rattle.sums.specs.theorems.TestLaws.{some-true, some-false}
use Rattle.splits.specs.lemmas.SplitCells.{half_row}
use Rattle.splits.proofs.cells.has_half.Goals.{After-are_halves, In-loop-k}
use Rattle.splits.proofs.cells.has_half.Goals as goal

-- ---- what is known there

-- the test of the edge
tested : (c : After-are_halves)
    → (let s = c.args in
    c.are_halves.result
    ≡ half_row s.kept s.work.now s.step s.parents.now s.row c.loop-k.k)
unfolding half_row
tested c = c.are_halves.ensures

-- ---- the needs

pub returns-then-are_halves : goal.returns-then-are_halves
returns-then-are_halves c =
    sym (some-true _ _ c.loop-k.k c.loop-k-test.true (sym (tested (goal.at.returns-then-are_halves c).After-are_halves) ∙ c.if-are_halves.true))

pub loop-k-preserved : goal.loop-k-preserved
loop-k-preserved c =
    below_more _ _ c.loop-k.invariant (sym (tested (goal.at.loop-k-preserved c).After-are_halves) ∙ c.if-are_halves.false)

pub returns : goal.returns
returns c =
    let l = c.loop-k in
    sym (some-false _ _ (λ j m. l.invariant j (omega (arith, c.loop-k-test.false))))
