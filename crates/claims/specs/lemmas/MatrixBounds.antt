-- The sums of a matrix whose cells add up to 256 at most: how large they are, and how they follow from one another.
-- Assumes nothing.
use Rattle.std.specs.Prelude.{◌≡◌, ℕ, ◌*◌, ◌-◌, ◌≤◌, ◌<◌}
use Rattle.std.proofs.Common.{le_trans, mul-le-mul_left, mul-le-mul_right, arith}
use Rattle.table_words.specs.Sizes.{tips_most}
use Rattle.sums.specs.Sum.{sum}
use Rattle.sums.specs.theorems.SumLaws.{sum_mono, sum-swap, sum-ge, sum-mul_right}
use Rattle.node_pairs.specs.theorems.Aggregates.{row_sum, column_sum, whole, squares, row_squares, column_squares}
use Rattle.node_pairs.specs.theorems.Aggregates.{row_without, column_without, down, along, row_cell, column_cell}

-- a sum of products, where one factor is b at most
pub products-le : (n b s : ℕ) (f g : ℕ → ℕ) → ((i : ℕ) → i < n → g i ≤ b) → sum n f ≤ s
    → sum n (λ i. f i * g i) ≤ s * b
products-le n b s f g h l =
    le_trans (sum_mono n (λ i. f i * g i) (λ i. f i * b) (λ i m. mul-le-mul_left (f i) (h i m)))
    (le_trans (omega (arith, sum-mul_right n b f)) (mul-le-mul_right b l))

module _ (d d' : ℕ) (I : ℕ → ℕ → ℕ) where
  -- no cell is more than its row ..
  pub cell_row_le : (i j : ℕ) → j < d' → I i j ≤ row_sum d' I i
  cell_row_le i j l = sum-ge d' (I i) j l

  -- .. or than its column
  pub cell_column_le : (i j : ℕ) → i < d → I i j ≤ column_sum d I j
  cell_column_le i j l = sum-ge d (λ f. I f j) i l

  -- what is left of a row ..
  pub row_without_is : (i j : ℕ) → j < d' → row_sum d' I i - I i j ≡ row_without d' I i j
  row_without_is i j l = omega (arith, row_cell d' I i j l)

  -- .. and of a column, without one of its cells
  pub column_without_is : (i j : ℕ) → i < d → column_sum d I j - I i j ≡ column_without d I i j
  column_without_is i j l = omega (arith, column_cell d I i j l)

  module _ (h : whole d d' I ≤ tips_most) where
    -- no row is more than the whole ..
    pub row_le : (i : ℕ) → i < d → row_sum d' I i ≤ tips_most
    row_le i l = omega (arith, sum-ge d (row_sum d' I) i l)

    -- the columns have as much as the rows
    columns_le : sum d' (column_sum d I) ≤ tips_most
    columns_le = omega (arith, sum-swap d d' I)

    -- .. and no column
    pub column_le : (j : ℕ) → j < d' → column_sum d I j ≤ tips_most
    column_le j l = omega (arith, sum-ge d' (column_sum d I) j l, columns_le)

    -- sums of products are at most 256 times the whole: of cells, ..
    pub squares_le : squares d d' I ≤ 65536
    squares_le =
        le_trans (sum_mono d _ (λ f. row_sum d' I f * tips_most) (λ f l. products-le d' tips_most (row_sum d' I f) (I f) (I f)
        (λ a m. omega (arith, cell_row_le f a m, row_le f l)) (omega arith)))
        (omega (arith, sum-mul_right d tips_most (row_sum d' I)))

    -- .. of rows, ..
    pub row_squares-le : row_squares d d' I ≤ 65536
    row_squares-le = products-le d tips_most tips_most (row_sum d' I) (row_sum d' I) row_le h

    -- .. of columns, ..
    pub column_squares-le : column_squares d d' I ≤ 65536
    column_squares-le = products-le d' tips_most tips_most (column_sum d I) (column_sum d I) column_le columns_le

    -- .. down a column ..
    pub down_le : (j : ℕ) → j < d' → down d d' I j ≤ 65536
    unfolding down
    down_le j l = products-le d tips_most tips_most (λ f. I f j) (λ f. row_without d' I f j)
        (λ f m. omega (arith, row_cell d' I f j l, row_le f m)) (column_le j l)

    -- .. and along a row
    pub along_le : (i : ℕ) → i < d → along d d' I i ≤ 65536
    unfolding along
    along_le i l = products-le d' tips_most tips_most (I i) (column_without d I i)
        (λ a m. omega (arith, column_cell d I i a l, column_le a m)) (row_le i l)
