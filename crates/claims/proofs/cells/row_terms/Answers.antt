-- What is known where the search needs a hint.
-- Assumes nothing.
use mathlib.Core.Path.{◌≡◌, sym, ◌∙◌, ap}
use Prim.Native.Nat.{ℕ, ◌<◌}
use native.Mathlib.Omega.{arith}
use lib.ListN.{length}
use Rattle.table_words.specs.Sizes.{tips_most}
use Rattle.tree_check.specs.Table.{word}
use Rattle.sums.specs.theorems.Products.{product_le}
use Rattle.claims.specs.lemmas.Block.{block_cell}
use Rattle.claims.specs.lemmas.CellSums.{row_none, row_next, row_skip, row_same}
use Rattle.claims.specs.lemmas.BlockCells.{row_inside, cell_room, cell_gives}
use Rattle.claims.proofs.cells.row_terms.Goals.{else-t-ne0, then-t-ne0, After-from-t, In-loop-j}
use Rattle.claims.proofs.cells.row_terms.Goals as goal

-- ---- what is known there

in_cells : (c : In-loop-j) → c.loop-j.k < length c.args.cells.now
in_cells c =
    let q = row_inside c.args.i c.args.rows c.args.columns c.requires.summed.1 in
    omega (arith, c.requires.summed.0.block.inside, q)

-- the cell that was read
cell : (c : After-from-t)
    → let p = c.args in
    c.from-t.result ≡ block_cell p.cells.now p.columns p.i c.loop-j.j
cell c =
    c.from-t.ensures ∙ ap (λ (k : ℕ). word c.args.cells.now k) c.loop-j.invariant.0

-- ---- the needs

pub offset_bounds-sums-i : goal.offset_bounds-sums-i
offset_bounds-sums-i c = omega (arith, c.requires.summed.0.sums_long)

pub bounds-sums-i : goal.bounds-sums-i
bounds-sums-i c = omega (arith, c.requires.summed.0.sums_long)

pub offset_bounds-along-i : goal.offset_bounds-along-i
offset_bounds-along-i c = omega (arith, c.requires.summed.0.alongs_long)

pub bounds-along-i : goal.bounds-along-i
bounds-along-i c =
    let p = c.requires in
    omega (arith, p.summed.0.alongs_long)

pub overflow_mul-k : goal.overflow_mul-k
overflow_mul-k c =
    let b = c.requires.summed.0.block in
    omega (arith, product_le tips_most tips_most c.args.i c.args.columns (omega (arith, b.rows_few)) b.columns_few)

pub loop-j-init : goal.loop-j-init
loop-j-init c = (omega arith, row_none _ _ _ _)

pub offset_bounds-cells-k : goal.offset_bounds-cells-k
offset_bounds-cells-k c = omega (arith, in_cells c)

pub bounds-cells-k : goal.bounds-cells-k
bounds-cells-k c = omega (arith, in_cells (goal.at.bounds-cells-k c).In-loop-j)

pub offset_bounds-totals-j : goal.offset_bounds-totals-j
offset_bounds-totals-j c = omega (arith, c.requires.summed.0.totals_long)

pub bounds-totals-j : goal.bounds-totals-j
bounds-totals-j c = omega (arith, c.requires.summed.0.totals_long)

pub offset_bounds-down-j : goal.offset_bounds-down-j
offset_bounds-down-j c = omega (arith, c.requires.summed.0.downs_long)

pub bounds-down-j : goal.bounds-down-j
bounds-down-j c = omega (arith, c.requires.summed.0.downs_long)

pub cell_terms-cell-requires : goal.cell_terms-cell-requires
cell_terms-cell-requires c =
    let p = c.requires in
    cell_room _ _ _ _ _ _ _ p.summed.0 _ _ p.summed.1 c.loop-j-test.true _ _ _ _ (cell (goal.at.cell_terms-cell-requires c).After-from-t) p.overall
    (omega arith)

pub overflow_add-pairs : goal.overflow_add-pairs
overflow_add-pairs c =
    omega (
      arith,
      c.requires.summed.0.block.columns_few,
      c.loop-j.invariant.1.pairs_le,
      c.cell_terms-cell.ensures.pairs_le,
    )

pub overflow_add-plus : goal.overflow_add-plus
overflow_add-plus c =
    omega (
      arith,
      c.requires.summed.0.block.columns_few,
      c.loop-j.invariant.1.plus_le,
      c.cell_terms-cell.ensures.plus_le,
    )

pub overflow_add-minus : goal.overflow_add-minus
overflow_add-minus c =
    omega (
      arith,
      c.requires.summed.0.block.columns_few,
      c.loop-j.invariant.1.minus_le,
      c.cell_terms-cell.ensures.minus_le,
    )

pub overflow_add-k : goal.overflow_add-k
overflow_add-k c =
    let b = c.requires.summed.0.block in
    omega (
      arith,
      b.columns_few,
      product_le tips_most tips_most c.args.i c.args.columns (omega (arith, b.rows_few)) b.columns_few,
    )

pub loop-j-preserved : goal.loop-j-preserved
loop-j-preserved c =
    let l = c.loop-j in
    let p = c.requires in
    let j = c.loop-j-test.true in (
      omega arith,
      elim c.if-t-ne0.branch [
        | then-t-ne0 w ↦
            let gives =
            cell_gives _ _ _ _ _ _ _ p.summed.0 _ _ p.summed.1 j _ _ _ _ (cell (goal.at.loop-j-preserved c).After-from-t) p.overall _ _ _ w.cell_terms-cell.ensures in
            row_same _ _ _ _ _ _ _ _ (row_next _ _ _ _ _ _ _ _ l.invariant.1 _ _ _ gives) _ _ _ w.pairs-is w.plus-is w.minus-is
        | else-t-ne0 w ↦
            let none = sym (cell (goal.at.loop-j-preserved c).After-from-t) ∙ w.if-t-ne0.false in
            row_same _ _ _ _ _ _ _ _ (row_skip _ _ _ _ _ _ _ _ l.invariant.1 none) _ _ _ w.pairs-is w.plus-is w.minus-is
      ],
    )

pub returns : goal.returns
returns c =
    let l = c.loop-j in
    let e : l.j ≡ c.args.columns = omega arith in
    rw e at l.invariant.1
