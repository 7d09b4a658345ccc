-- What is known where the search needs a hint.
-- Assumes nothing.
use mathlib.Core.Path.{◌≡◌}
use Prim.Native.Nat.{◌+◌}
use native.Mathlib.Omega.{arith}
use Rattle.table_words.specs.Sizes.{tips_most}
use Rattle.sums.specs.theorems.Products.{product_le}
use Rattle.claims.specs.lemmas.CellSums.{rows_none, rows_next}
use Rattle.claims.specs.lemmas.BlockCells.{Overall, sums_low, totals_low, whole_line, base_le, overall}
use Rattle.claims.proofs.cells.all_terms.Goals.{After-total_squares-2}
use Rattle.claims.proofs.cells.all_terms.Goals as goal

-- the three sums over the whole block
sums : (c : After-total_squares-2)
    → Overall c.args.cells.now c.args.rows c.args.columns
    c.total-whole.result
    c.line_squares-squares.result
    (c.total_squares.result + c.total_squares-2.result)
sums c =
    overall _ _ _ _ _ _ _ c.requires _ _ _ _
    c.total-whole.ensures
    c.line_squares-squares.ensures
    c.total_squares.ensures
    c.total_squares-2.ensures

pub total-whole-requires : goal.total-whole-requires
total-whole-requires c = sums_low _ _ _ _ _ _ _ c.requires

pub overflow_mul-rows : goal.overflow_mul-rows
overflow_mul-rows c =
    let b = c.requires.block in
    omega (arith, product_le tips_most tips_most _ _ b.rows_few b.columns_few)

pub line_squares-squares-requires : goal.line_squares-squares-requires
line_squares-squares-requires c = whole_line _ _ _ _ _ _ _ c.requires

pub total_squares-requires : goal.total_squares-requires
total_squares-requires c = sums_low _ _ _ _ _ _ _ c.requires

pub total_squares-requires-2 : goal.total_squares-requires-2
total_squares-requires-2 c = totals_low _ _ _ _ _ _ _ c.requires

pub overflow_add-base : goal.overflow_add-base
overflow_add-base c = omega (arith, (sums c).base_is, base_le _ _ _ _ _ _ _ c.requires)

pub loop-i-init : goal.loop-i-init
loop-i-init c = rows_none _ _ _

pub row_terms-row-requires : goal.row_terms-row-requires
row_terms-row-requires c =
    record { summed = (c.requires, c.loop-i-test.true); overall = sums (goal.at.row_terms-row-requires c).After-total_squares-2 }

pub overflow_add-pairs : goal.overflow_add-pairs
overflow_add-pairs c =
    let b = c.requires.block in
    omega (arith, b.rows_few, b.columns_few, c.loop-i.invariant.pairs_le, c.row_terms-row.ensures.pairs_le)

pub overflow_add-plus : goal.overflow_add-plus
overflow_add-plus c =
    let b = c.requires.block in
    omega (arith, b.rows_few, b.columns_few, c.loop-i.invariant.plus_le, c.row_terms-row.ensures.plus_le)

pub overflow_add-minus : goal.overflow_add-minus
overflow_add-minus c =
    let b = c.requires.block in
    omega (arith, b.rows_few, b.columns_few, c.loop-i.invariant.minus_le, c.row_terms-row.ensures.minus_le)

pub loop-i-preserved : goal.loop-i-preserved
loop-i-preserved c =
    rows_next _ _ _ _ _ _ _ _ _ _ c.requires.block.columns_few c.loop-i.invariant c.row_terms-row.ensures

pub returns : goal.returns
returns c =
    let l = c.loop-i in
    let e : l.i ≡ c.args.rows = omega arith in
    rw e at l.invariant
