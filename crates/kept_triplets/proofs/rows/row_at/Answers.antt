-- The sums of the edge and of its parent's, then the listed columns.
-- Assumes nothing.
use mathlib.Core.Path.{◌≡◌, ◌∙◌}
use Prim.Native.Nat.{ℕ, ◌+◌, ◌*◌}
use native.Mathlib.Omega.{arith}
use lib.ListN.{length-replicate}
use Rattle.table_words.specs.Sizes.{tips_most}
use Rattle.sums.specs.Bits.{bit}
use Rattle.tree_check.specs.Table.{word}
use Rattle.walks.specs.theorems.SpanLaws.{in_span}
use Rattle.kept_triplets.specs.lemmas.Weighing.{leaving, weights_are, weights_low}
use Rattle.kept_triplets.specs.lemmas.Rows.{RowAt, row_at, row_sums, row_terms}
use Rattle.kept_triplets.proofs.rows.row_at.Goals.{After-fill_span-2, After-way_told-1}
use Rattle.kept_triplets.proofs.rows.row_at.Goals as goal

-- ---- what is known there

known : (c : After-way_told-1) → let a = c.args in
    RowAt a.first.now a.second.now a.marks.now a.n a.first_begin.now a.first_end.now
    a.second_begin.now a.second_end.now a.at.now a.columns.now a.count c.requires.0 a.v c.from-p.result
known c = row_at _ _ _ _ _ _ _ _ _ _ _ c.requires.0 _ _ c.requires.1 c.requires.2 c.from-p.ensures

weights : (c : After-fill_span-2) → let a = c.args in let p = c.from-p.result in (q : ℕ) →
    word c.fill_span-2.new.weights q ≡ bit (in_span q (word a.first_begin.now a.v) (word a.first_end.now a.v))
    + 65536 * leaving (word a.first_begin.now a.v) (word a.first_end.now a.v) (word a.first_begin.now p) (word a.first_end.now p) q
weights c = weights_are _ _ _ _ _ _ c.fill_span.ensures c.fill_span-2.ensures

pub bounds-first_begin-p : goal.bounds-first_begin-p
bounds-first_begin-p c = (known c).parent_in

pub bounds-first_end-p : goal.bounds-first_end-p
bounds-first_end-p c = (known (goal.at.bounds-first_end-p c).After-way_told-1).parent_in

pub fill_span-requires : goal.fill_span-requires
fill_span-requires c = length-replicate {A = ℕ} tips_most 0

pub bounds-first_begin-v : goal.bounds-first_begin-v
bounds-first_begin-v c = (known (goal.at.bounds-first_begin-v c).After-way_told-1).in_table.1

pub bounds-first_end-v : goal.bounds-first_end-v
bounds-first_end-v c = (known (goal.at.bounds-first_end-v c).After-way_told-1).in_table.1

pub fill_span-requires-2 : goal.fill_span-requires-2
fill_span-requires-2 c = c.fill_span.ensures.long

pub overflow_sub-n : goal.overflow_sub-n
overflow_sub-n c = omega (arith, c.requires.0.tips_are, c.requires.0.tree.tips_range)

pub weigh-requires : goal.weigh-requires
weigh-requires c = (
  omega (arith, c.requires.0.tips_are, c.requires.0.tree.tips_range),
  length-replicate {A = ℕ} tips_most 0,
  weights_low _ _ _ _ _ _ c.fill_span.ensures c.fill_span-2.ensures,
)

pub row_terms-requires : goal.row_terms-requires
row_terms-requires c =
    row_sums _ _ _ _ _ _ _ _ _ _ _ c.requires.0 _ _ _ _ c.requires.1 c.requires.2 (known (goal.at.row_terms-requires c).After-way_told-1).parent_is (weights (goal.at.row_terms-requires c).After-fill_span-2) c.weigh.ensures

pub returns : goal.returns
returns c =
    let e = row_terms _ _ _ _ _ _ _ _ _ _ _ c.requires.0 _ _ _ _ c.requires.1 c.requires.2 (known (goal.at.returns c).After-way_told-1).parent_is (weights (goal.at.returns c).After-fill_span-2) c.weigh.ensures in
    (c.row_terms.ensures.0 ∙ e.0, c.row_terms.ensures.1 ∙ e.1)
