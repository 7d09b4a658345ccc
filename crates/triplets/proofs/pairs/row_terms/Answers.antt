-- What is known where the search needs a hint.
-- Assumes nothing.
use native.Mathlib.Omega.{arith}
use Rattle.sums.specs.theorems.SumLaws.{sum_step}
use Rattle.triplets.proofs.lemmas.EdgeSums.{sum-start}
use Rattle.triplets.proofs.lemmas.PairCells.{alike_most, apart_most}
use Rattle.triplets.specs.lemmas.ListedRows.{alike_listed, apart_listed}
use Rattle.triplets.proofs.lemmas.ListedRows.{listed_low}
use Rattle.triplets.proofs.pairs.row_terms.Goals as goal

-- ---- the needs

pub loop-q-init : goal.loop-q-init
unfolding alike_listed apart_listed
loop-q-init c = (sum-start _, sum-start _)

pub overflow_add-alike : goal.overflow_add-alike
overflow_add-alike c =
    let a = c.args in
    let low = listed_low a.work.now a.base a.up a.columns.now a.above.now a.count c.requires
    c.loop-q.q c.loop-q.auto.q-end in
    let h = c.requires.four _ c.loop-q-test.true in
    omega (arith, c.loop-q.invariant.0, low.0, c.cell_terms-terms.ensures.0, alike_most _ _ _ _ h.nested)

pub overflow_add-apart : goal.overflow_add-apart
overflow_add-apart c =
    let a = c.args in
    let low = listed_low a.work.now a.base a.up a.columns.now a.above.now a.count c.requires
    c.loop-q.q c.loop-q.auto.q-end in
    let h = c.requires.four _ c.loop-q-test.true in
    omega (arith, c.loop-q.invariant.1, low.1, c.cell_terms-terms.ensures.1, apart_most _ _ _ _ h.nested)

pub loop-q-preserved : goal.loop-q-preserved
unfolding alike_listed apart_listed
loop-q-preserved c =
    let e = c.cell_terms-terms.ensures in (
      sum_step _ _ _ _ c.loop-q.invariant.0 e.0,
      sum_step _ _ _ _ c.loop-q.invariant.1 e.1,
    )
