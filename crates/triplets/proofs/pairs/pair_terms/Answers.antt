-- What is known where the search needs a hint.
-- Assumes nothing.
use mathlib.Core.Path.{◌≡◌}
use Prim.Native.Nat.{◌+◌, ◌-◌, ◌≤◌}
use native.Mathlib.Omega.{arith}
use lib.ListN.{length}
use Rattle.sums.specs.Sum.{sum}
use Rattle.sums.specs.theorems.SumLaws.{sum_step}
use Rattle.triplets.proofs.lemmas.EdgeSums.{sum-start}
use Rattle.triplets.specs.lemmas.PairCells.{alike_row, triplets_apart_row, alike_sum, apart_sum}
use Rattle.triplets.proofs.lemmas.ListedRows.{row_low, rows_low}
use Rattle.triplets.proofs.pairs.pair_terms.Goals.{In-loop-i}
use Rattle.triplets.proofs.pairs.pair_terms.Goals as goal

-- ---- the bounds

low : (c : In-loop-i)
    → (let s = c.args in
    let i = c.loop-i.i in
    (sum i (λ r. alike_row s.work.now s.first_parents.now s.second_parents.now (r + 1)) ≤ 17592186044416)
    × (sum i (λ r. triplets_apart_row s.work.now s.first_parents.now s.second_parents.now (r + 1)) ≤ 17592186044416))
low c = rows_low _ _ _ c.requires.0 _ (omega arith)

row-most : (c : In-loop-i)
    → (let s = c.args in
    let i = c.loop-i.i in
    (alike_row s.work.now s.first_parents.now s.second_parents.now (i + 1) ≤ 17179869184)
    × (triplets_apart_row s.work.now s.first_parents.now s.second_parents.now (i + 1) ≤ 17179869184))
row-most c = row_low _ _ _ c.requires.0 _ (omega arith) (omega (arith, c.loop-i-test.true))

-- ---- the needs

pub loop-i-init : goal.loop-i-init
loop-i-init c = (sum-start _, sum-start _)

pub overflow_add-alike : goal.overflow_add-alike
overflow_add-alike c =
    let b = low (goal.at.overflow_add-alike c).In-loop-i in
    omega (arith, c.loop-i.invariant.0, b.0, c.row_sums-row.ensures.0, (row-most (goal.at.overflow_add-alike c).In-loop-i).0)

pub overflow_add-apart : goal.overflow_add-apart
overflow_add-apart c =
    let b = low (goal.at.overflow_add-apart c).In-loop-i in
    omega (arith, c.loop-i.invariant.1, b.1, c.row_sums-row.ensures.1, (row-most (goal.at.overflow_add-apart c).In-loop-i).1)

pub loop-i-preserved : goal.loop-i-preserved
loop-i-preserved c =
    let e = c.row_sums-row.ensures in (
      sum_step _ _ _ _ c.loop-i.invariant.0 e.0,
      sum_step _ _ _ _ c.loop-i.invariant.1 e.1,
    )

pub returns : goal.returns
unfolding alike_sum apart_sum
returns c =
    let l = c.loop-i in
    let s = c.args in
    let e : l.i ≡ length s.first_parents.now - 2 = omega (arith, c.loop-i-test.false) in
    (rw e at l.invariant.0, rw e at l.invariant.1)
