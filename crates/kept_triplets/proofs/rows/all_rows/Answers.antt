-- What is known where the search needs a hint.
-- Assumes nothing.
use mathlib.Core.Path.{◌≡◌, refl, ◌∙◌, ap}
use Prim.Native.Nat.{◌+◌, ◌≤◌, ◌<◌}
use native.Mathlib.Omega.{arith}
use lib.ListN.{take}
use Rattle.std.proofs.Common.{get_or-take, length-take-le}
use Rattle.tree_check.specs.Table.{word}
use Rattle.sums.specs.Sum.{sum}
use Rattle.sums.specs.theorems.SumLaws.{sum_step}
use Rattle.kept_triplets.specs.lemmas.AllRows.{kept_alike_row, kept_apart_row, rows_are, rows_low}
use Rattle.kept_triplets.proofs.rows.all_rows.Goals.{After-struct_known-1, In-loop-v}
use Rattle.kept_triplets.proofs.rows.all_rows.Goals as goal

-- ---- what is known there

-- the node is one of those that are listed
at : (c : In-loop-v) → let a = c.args in
    (c.loop-v.v-index < a.row_count) × (word (take a.row_count a.rows.now) c.loop-v.v-index ≡ word a.rows.now c.loop-v.v-index)
at c =
    let a = c.args in
    let l : c.loop-v.v-index < a.row_count =
    omega (arith, c.loop-v-test.true, length-take-le a.row_count a.rows.now (omega (arith, c.requires.1.few))) in
    (l, get_or-take a.row_count a.rows.now c.loop-v.v-index 0 l)

step : (c : After-struct_known-1) → let a = c.args in
    (c.loop-v.alike + c.row_at-row.result.alike ≡ sum (c.loop-v.v-index + 1) (λ i. kept_alike_row a.marks.now a.first.now a.second.now (word a.rows.now i)))
    × (c.loop-v.apart + c.row_at-row.result.apart ≡ sum (c.loop-v.v-index + 1) (λ i. kept_apart_row a.marks.now a.first.now a.second.now (word a.rows.now i)))
step c =
    let a = c.args in
    let v = (at (goal.at.After-struct_known-1 c).In-loop-v).1 in (
      sum_step c.loop-v.v-index (λ i. kept_alike_row a.marks.now a.first.now a.second.now (word a.rows.now i)) _ _ c.loop-v.invariant.0 (c.row_at-row.ensures.0 ∙ ap (kept_alike_row a.marks.now a.first.now a.second.now) v),
      sum_step c.loop-v.v-index (λ i. kept_apart_row a.marks.now a.first.now a.second.now (word a.rows.now i)) _ _ c.loop-v.invariant.1 (c.row_at-row.ensures.1 ∙ ap (kept_apart_row a.marks.now a.first.now a.second.now) v),
    )

bounds : (c : After-struct_known-1) → let a = c.args in
    (sum (c.loop-v.v-index + 1) (λ i. kept_alike_row a.marks.now a.first.now a.second.now (word a.rows.now i)) ≤ 5462270)
    × (sum (c.loop-v.v-index + 1) (λ i. kept_apart_row a.marks.now a.first.now a.second.now (word a.rows.now i)) ≤ 5462270)
bounds c = rows_low _ _ _ _ _ _ _ _ _ _ _ c.requires.0 _ _ c.requires.1 (c.loop-v.v-index + 1) (omega (arith, at (goal.at.After-struct_known-1 c).In-loop-v))

pub loop-v-init : goal.loop-v-init
loop-v-init c = ((unfold sum in refl), (unfold sum in refl))

pub row_at-row-requires : goal.row_at-row-requires
row_at-row-requires c =
    let a = at (goal.at.row_at-row-requires c).In-loop-v in
    let r = c.requires.1.row _ a.0 in
    (c.requires.0, rw a.1 r.0, rw a.1 r.1)

pub overflow_add-alike : goal.overflow_add-alike
overflow_add-alike c = omega (arith, (step c).0, (bounds c).0)

pub overflow_add-apart : goal.overflow_add-apart
overflow_add-apart c = omega (arith, (step (goal.at.overflow_add-apart c).After-struct_known-1).1, (bounds (goal.at.overflow_add-apart c).After-struct_known-1).1)

pub loop-v-preserved : goal.loop-v-preserved
loop-v-preserved c = step (goal.at.loop-v-preserved c).After-struct_known-1

pub returns : goal.returns
returns c =
    let e : c.loop-v.v-index ≡ c.args.row_count = omega (arith, c.loop-v-test.false, length-take-le c.args.row_count c.args.rows.now (omega (arith, c.requires.1.few))) in
    let r = rows_are _ _ _ _ _ _ _ _ _ _ _ c.requires.0 _ _ c.requires.1 in
    (rw e at c.loop-v.invariant.0 ∙ r.0, rw e at c.loop-v.invariant.1 ∙ r.1)
