-- A block by its rows and by its columns: what its slices hold once they are filled, and what the sums come to.
-- Assumes nothing.
use Rattle.std.specs.Prelude.{◌≡◌, List, ℕ, ◌+◌, ◌*◌, ◌-◌, ◌≤◌, ◌<◌, length}
use Rattle.std.proofs.Math.Path.{sym, fun_ext}
use Rattle.std.proofs.Common.{◌∙◌, ap, ap₂, arith}
use Rattle.table_words.specs.Sizes.{tips_most}
use Rattle.sums.specs.Sum.{sum}
use Rattle.sums.specs.theorems.SumLaws.{sum_ext, sum_cong}
use Rattle.tree_check.specs.Table.{word}
use Rattle.node_pairs.specs.theorems.Cells.{pair_s2, pair_s3}
use Rattle.node_pairs.specs.theorems.Aggregates.{transposed, row_sum, column_sum, down, along}
use Rattle.node_pairs.specs.theorems.Transposed.{pair_s2-transposed, pair_s3-transposed}
use Rattle.node_pairs.specs.theorems.CellForms.{pair_s2-cells}
use Rattle.node_pairs.specs.theorems.ClosedForms.{dot_squares, term_squares, pair_s3_rows, pair_s3_columns}
use Rattle.sums.specs.theorems.Products.{product_le}
use Rattle.claims.specs.lemmas.Block.{Block, block_cell}
use Rattle.claims.specs.lemmas.CellLines.{Lines, AllTotals, line_sum, line_rest}
use Rattle.claims.specs.lemmas.Filled.{filled_to, filled_at, length-filled}
use Rattle.claims.specs.lemmas.MatrixBounds.{cell_row_le, cell_column_le, row_without_is, column_without_is}
use Rattle.claims.specs.lemmas.MatrixBounds.{row_le, column_le}
use Rattle.claims.specs.lemmas.CellSums.{pairs_term, plus_term, minus_term, AllTerms}
use Rattle.claims.specs.lemmas.BlockCells.{Summed, row_inside}
use Rattle.claims.specs.lemmas.LineDots.{FewLines, line_of}

-- the squares of dot products and of their terms, by rows or by columns: what S3 lacks without the rectangles
pub record Rectangles (d d' : ℕ) (I : ℕ → ℕ → ℕ) (dots terms : ℕ) : Type 0 where
  pub closed : pair_s3 d d' I + sum d (λ i. sum d' (minus_term d d' I i)) + 2 * terms
      ≡ sum d (λ i. sum d' (plus_term d d' I i)) + 2 * dots
  pub dots_le : dots ≤ 281474976710656
  pub terms_le : terms ≤ 72057594037927936

module _ (cells : List ℕ) (d d' : ℕ) (b : Block cells d d') where
  abbrev I : ℕ → ℕ → ℕ
  I = block_cell cells d'

  -- ---- the places of the cells

  -- the cells of a row are next to each other, ..
  row_place : (i a : ℕ) → i * d' + a * 1 ≡ i * d' + a
  row_place i a = omega arith

  -- .. those of a column a row apart
  column_place : (j f : ℕ) → j * 1 + f * d' ≡ f * d' + j
  column_place j f = omega arith

  -- every cell lies in the slice
  cell_inside : (i a : ℕ) → i < d → a < d' → i * d' + a < length cells
  cell_inside i a li la = omega (arith, row_inside i d d' li, b.inside)

  -- rows as lines, ..
  row_at : (i a : ℕ) → line_of cells d' 1 i a ≡ I i a
  row_at i a = ap (λ (z : ℕ). word cells z) (row_place i a)

  -- .. and columns
  column_at : (j f : ℕ) → line_of cells 1 d' j f ≡ I f j
  column_at j f = ap (λ (z : ℕ). word cells z) (column_place j f)

  -- ---- rows and columns as lines

  -- the rows lie in the slice ..
  pub rows_lines : Lines (length cells) d' d 1 d'
  rows_lines = record {
    line = λ i l. record {
      inside = λ a m. omega (arith, cell_inside i a l m);
      len_le = omega (arith, b.columns_few);
      step_le = omega arith;
      at_le = product_le tips_most tips_most i d' (omega (arith, b.rows_few)) b.columns_few;
    };
    gap_le = omega (arith, b.columns_few);
  }

  -- .. and so do the columns
  pub columns_lines : Lines (length cells) 1 d' d' d
  columns_lines = record {
    line = λ j l. record {
      inside = λ f m. omega (arith, cell_inside f j m l);
      len_le = omega (arith, b.rows_few);
      step_le = omega (arith, b.columns_few);
      at_le = omega (arith, b.columns_few);
    };
    gap_le = omega arith;
  }

  -- the rows are low ..
  pub rows_few_lines : FewLines cells d' d 1 d'
  rows_few_lines = record {
    inside = λ i a l m. omega (arith, cell_inside i a l m);
    low = λ i a l m. omega (arith, row_at i a, cell_row_le d d' I i a m, row_le d d' I b.whole_few i l);
    total = λ i l. omega (arith, sum_cong d' (row_at i), row_le d d' I b.whole_few i l);
    count_few = b.rows_few;
    len_few = b.columns_few;
    gap_few = b.columns_few;
    step_few = omega arith;
  }

  -- .. and so are the columns
  pub columns_few_lines : FewLines cells 1 d' d' d
  columns_few_lines = record {
    inside = λ j f l m. omega (arith, cell_inside f j m l);
    low = λ j f l m. omega (
      arith,
      column_at j f,
      cell_column_le d d' I f j m,
      column_le d d' I b.whole_few j l,
    );
    total = λ j l. omega (arith, sum_cong d (column_at j), column_le d d' I b.whole_few j l);
    count_few = b.columns_few;
    len_few = b.rows_few;
    gap_few = omega arith;
    step_few = b.columns_few;
  }

  -- ---- the slices once they are filled

  module _ (sums sums₀ : List ℕ) (long : d ≤ length sums₀) (e : sums ≡ filled_to (line_sum cells d' 1 d') d sums₀) where
    -- the sums of the rows
    sums_are : (i : ℕ) → i < d → word sums i ≡ row_sum d' I i
    sums_are i l = filled_at (line_sum cells d' 1 d') d sums₀ sums long e i l ∙ sum_cong d' (row_at i)

    sums_long : d ≤ length sums
    sums_long = omega (arith, length-filled _ _ _ _ e)

    -- .. cover the cells of each column
    pub sums_totals : AllTotals cells sums 1 d' d' d
    sums_totals = record {
      line = λ j l. record {
        covers = λ f m. omega (arith, sums_are f m, column_at j f, cell_row_le d d' I f j l);
        low = λ f m. omega (arith, sums_are f m, row_le d d' I b.whole_few f m);
        inside = sums_long;
        few = b.rows_few;
      };
    }

  module _ (totals totals₀ : List ℕ) (long : d' ≤ length totals₀)
      (e : totals ≡ filled_to (line_sum cells 1 d' d) d' totals₀) where
    -- the sums of the columns
    totals_are : (j : ℕ) → j < d' → word totals j ≡ column_sum d I j
    totals_are j l = filled_at (line_sum cells 1 d' d) d' totals₀ totals long e j l ∙ sum_cong d (column_at j)

    totals_long : d' ≤ length totals
    totals_long = omega (arith, length-filled _ _ _ _ e)

    -- .. cover the cells of each row
    pub totals_totals : AllTotals cells totals d' d 1 d'
    totals_totals = record {
      line = λ i l. record {
        covers = λ a m. omega (arith, totals_are a m, row_at i a, cell_column_le d d' I i a l);
        low = λ a m. omega (arith, totals_are a m, column_le d d' I b.whole_few a m);
        inside = totals_long;
        few = b.columns_few;
      };
    }

  -- a cell times the rest of a total
  rest_same : (x x' y y' z : ℕ) → x ≡ x' → y ≡ y' → y' - x' ≡ z → x * (y - x) ≡ x' * z
  rest_same x x' y y' z p q r = ap₂ (λ (v w : ℕ). v * (w - v)) p q ∙ ap (λ (w : ℕ). x' * w) r

  -- all four slices
  pub summed : (sums sums₀ totals totals₀ downs downs₀ alongs alongs₀ : List ℕ)
      → d ≤ length sums₀ → d' ≤ length totals₀ → d' ≤ length downs₀ → d ≤ length alongs₀
      → sums ≡ filled_to (line_sum cells d' 1 d') d sums₀
      → totals ≡ filled_to (line_sum cells 1 d' d) d' totals₀
      → downs ≡ filled_to (line_rest cells sums 1 d' d) d' downs₀
      → alongs ≡ filled_to (line_rest cells totals d' 1 d') d alongs₀
      → Summed cells sums totals downs alongs d d'
  summed sums sums₀ totals totals₀ downs downs₀ alongs alongs₀ ls lt ld la es et ed ea = record {
    block = b;
    sums_long = sums_long sums sums₀ ls es;
    totals_long = totals_long totals totals₀ lt et;
    downs_long = omega (arith, length-filled _ _ _ _ ed);
    alongs_long = omega (arith, length-filled _ _ _ _ ea);
    sums_are = sums_are sums sums₀ ls es;
    totals_are = totals_are totals totals₀ lt et;
    downs_are = λ j l.
        filled_at (line_rest cells sums 1 d' d) d' downs₀ downs ld ed j l
        ∙ unfold down in sum_ext d _ _ (λ f m.
        rest_same _ _ _ _ _ (column_at j f) (sums_are sums sums₀ ls es f m) (row_without_is d d' I f j l));
    alongs_are = λ i l.
        filled_at (line_rest cells totals d' 1 d') d alongs₀ alongs la ea i l
        ∙ unfold along in sum_ext d' _ _ (λ a m.
        rest_same _ _ _ _ _ (row_at i a) (totals_are totals totals₀ lt et a m) (column_without_is d d' I i a l));
  }

  -- ---- by rows and by columns

  -- the rows as lines are the block ..
  rows_same : line_of cells d' 1 ≡ I
  rows_same = fun_ext (λ i. fun_ext (λ a. row_at i a))

  -- .. and the columns are its transposed
  columns_same : line_of cells 1 d' ≡ transposed I
  columns_same = fun_ext (λ j. fun_ext (λ f. column_at j f))

  -- three rows ..
  module _ (three : d ≡ 3) where
    pub three_rows_lem : FewLines cells d' 3 1 d'
    three_rows_lem = rw three at rows_few_lines

    pub three_rows-S2 : pair_s2 3 d' (line_of cells d' 1) ≡ pair_s2 d d' I
    three_rows-S2 = ap₂ (λ (k : ℕ) (J : ℕ → ℕ → ℕ). pair_s2 k d' J) (sym three) rows_same

    pub three_rows-S3 : pair_s3 3 d' (line_of cells d' 1) ≡ pair_s3 d d' I
    three_rows-S3 = ap₂ (λ (k : ℕ) (J : ℕ → ℕ → ℕ). pair_s3 k d' J) (sym three) rows_same

  -- .. and three columns
  module _ (three : d' ≡ 3) where
    pub three_columns : FewLines cells 1 3 3 d
    three_columns = rw three at columns_few_lines

    pub three_columns_S2 : pair_s2 3 d (line_of cells 1 3) ≡ pair_s2 d d' I
    three_columns_S2 =
        ap (λ (k : ℕ). pair_s2 k d (line_of cells 1 k)) (sym three)
        ∙ ap (pair_s2 d' d) columns_same
        ∙ sym (pair_s2-transposed d d' I)

    pub three_columns_S3 : pair_s3 3 d (line_of cells 1 3) ≡ pair_s3 d d' I
    three_columns_S3 =
        ap (λ (k : ℕ). pair_s3 k d (line_of cells 1 k)) (sym three)
        ∙ ap (pair_s3 d' d) columns_same
        ∙ sym (pair_s3-transposed d d' I)

  module _ (dots terms : ℕ) (dots_le : dots ≤ 281474976710656) (terms_le : terms ≤ 72057594037927936) where
    pub rectangles_rows : dots ≡ dot_squares d d' (line_of cells d' 1) → terms ≡ term_squares d d' (line_of cells d' 1)
        → Rectangles d d' I dots terms
    rectangles_rows p q = record {
      closed = omega (arith, by_rows, p ∙ ap (dot_squares d d') rows_same, q ∙ ap (term_squares d d') rows_same);
      dots_le = dots_le;
      terms_le = terms_le;
    }
      where
        by_rows : pair_s3 d d' I + sum d (λ i. sum d' (minus_term d d' I i)) + 2 * term_squares d d' I
            ≡ sum d (λ i. sum d' (plus_term d d' I i)) + 2 * dot_squares d d' I
        by_rows = unfold plus_term minus_term in pair_s3_rows d d' I

    pub rectangles_columns : dots ≡ dot_squares d' d (line_of cells 1 d') → terms ≡ term_squares d' d (line_of cells 1 d')
        → Rectangles d d' I dots terms
    rectangles_columns p q = record {
      closed = omega (
        arith,
        by-columns,
        p ∙ ap (dot_squares d' d) columns_same,
        q ∙ ap (term_squares d' d) columns_same,
      );
      dots_le = dots_le;
      terms_le = terms_le;
    }
      where
        by-columns : pair_s3 d d' I + sum d (λ i. sum d' (minus_term d d' I i)) + 2 * term_squares d' d (transposed I)
            ≡ sum d (λ i. sum d' (plus_term d d' I i)) + 2 * dot_squares d' d (transposed I)
        by-columns = unfold plus_term minus_term in pair_s3_columns d d' I

-- ---- what the sums come to

module _ (d d' : ℕ) (I : ℕ → ℕ → ℕ) (pairs plus minus : ℕ) (t : AllTerms d d' I d pairs plus minus) where
  -- the pairs of the cells are twice S2
  pub pairs_come_to : pairs ≡ pair_s2 d d' I
  pairs_come_to = t.pairs_is ∙ unfold pairs_term in sym (pair_s2-cells d d' I)

  -- the hooks, with the rectangles, are S3
  pub hooks_come_to : (dots terms : ℕ) → Rectangles d d' I dots terms
      → pair_s3 d d' I + minus + 2 * terms ≡ plus + 2 * dots
  hooks_come_to dots terms r = omega (arith, r.closed, t.plus_is, t.minus_is)
