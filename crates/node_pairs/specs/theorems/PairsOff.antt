-- The closed form of the pairs of cells outside a row and a column by the squares of rows, columns and cells.
-- Assumes nothing.
use Rattle.std.specs.Prelude.{◌≡◌, not, ℕ, ◌+◌, ◌*◌, ◌<◌, eqb}
use Rattle.std.proofs.Common.{sym, ◌∙◌, ap₂}
use Rattle.std.proofs.Math.Path.{ap}
use native.Mathlib.Omega.{arith}
use Rattle.sums.specs.Sum.{sum}
use Rattle.sums.specs.theorems.SumLaws.{sum_cong, sum-add, sum-mul_left, sum-swap}
use Rattle.sums.specs.theorems.BitLaws.{ne}
use Rattle.sums.specs.theorems.Products.{bit_sq, ne_once, sum-ne}
use Rattle.sums.specs.theorems.Exclusion.{pair_apart}
use Rattle.sums.specs.theorems.Grids.{grid_add, grid_sum}
use Rattle.node_pairs.specs.theorems.Aggregates.{transposed, row_sum, whole, squares, row_squares, column_squares}
use Rattle.node_pairs.specs.theorems.Aggregates.{row_without, column_without, down, along, struck_out, other_cells}
use Rattle.node_pairs.specs.theorems.Aggregates.{row_cell, struck_row, struck_column, rest_cell_lem}
use Rattle.node_pairs.specs.theorems.CellForms.{pairs_apart, pairs_off}

-- the pairs outside row i and column i', and the squares of all row sums and column sums
abbrev pub pairs_plus : ℕ → ℕ → (ℕ → ℕ → ℕ) → ℕ → ℕ → ℕ
pairs_plus d d' I i i' =
    other_cells d d' I i i' * other_cells d d' I i i' + squares d d' I + I i i' * I i i'
    + row_without d' I i i' * row_without d' I i i' + column_without d I i i' * column_without d I i i'
    + 2 * down d d' I i' + 2 * along d d' I i

-- ---- all pairs of cells in different rows and different columns

pub pairs_apart_lem : (d d' : ℕ) (X : ℕ → ℕ → ℕ)
    → pairs_apart d d' X + row_squares d d' X + column_squares d d' X
    ≡ whole d d' X * whole d d' X + squares d d' X
pairs_apart_lem d d' X = omega (
  arith,
  rows,
  columns,
  grid_sum d d d' ne (λ f g a. X f a * X g a),
  sum-swap d d' (λ f a. X f a * X f a),
  pair_apart d (row_sum d' X) (row_sum d' X),
)
  where
    -- of two different rows, the cells in different columns and in one
    rows : pairs_apart d d' X + sum d (λ f. sum d (λ g. ne f g * sum d' (λ a. X f a * X g a)))
        ≡ sum d (λ f. sum d (λ g. ne f g * (row_sum d' X f * row_sum d' X g)))
    rows = unfold pairs_apart in
        (sym (grid_add d d _ _)
        ∙ sum_cong d (λ f. sum_cong d (λ g.
        omega (arith, ap (λ (z : ℕ). ne f g * z) (pair_apart d' (X f) (X g))))))

    -- of one column, the cells in different rows and in one
    columns : sum d' (λ a. sum d (λ f. sum d (λ g. ne f g * (X f a * X g a))))
        + sum d' (λ a. sum d (λ f. X f a * X f a)) ≡ column_squares d d' X
    columns = sym (sum-add d' _ _) ∙ sum_cong d' (λ a. pair_apart d (λ f. X f a) (λ f. X f a))

-- ---- the squares, with a row and a column struck out

-- of the row sums without one column
row_squares_lem : (d d' : ℕ) (I : ℕ → ℕ → ℕ) (i' : ℕ) → i' < d'
    → sum d (λ f. row_without d' I f i' * row_without d' I f i') + 2 * down d d' I i'
    + sum d (λ f. I f i' * I f i')
    ≡ row_squares d d' I
unfolding down
row_squares_lem d d' I i' l = simp (sum-add, sum-mul_left) at each
  where
    square : (x y z : ℕ) → x + y ≡ z → x * x + 2 * (y * x) + y * y ≡ z * z
    square x y z e = rw (← e) (omega arith)

    each : sum d (λ f. row_without d' I f i' * row_without d' I f i' + 2 * (I f i' * row_without d' I f i')
        + I f i' * I f i') ≡ row_squares d d' I
    each = sum_cong d (λ f. square (row_without d' I f i') (I f i') (row_sum d' I f) (row_cell d' I f i' l))

-- of the column sums without one row
column_squares_lem : (d d' : ℕ) (I : ℕ → ℕ → ℕ) (i : ℕ) → i < d
    → sum d' (λ a. column_without d I i a * column_without d I i a) + 2 * along d d' I i
    + sum d' (λ a. I i a * I i a)
    ≡ column_squares d d' I
unfolding along column_without down row_without
column_squares_lem d d' I i l = row_squares_lem d' d (transposed I) i l

module _ (d d' : ℕ) (I : ℕ → ℕ → ℕ) (i i' : ℕ) where
  struck_rows : i < d
      → row_squares d d' (struck_out I i i') + row_without d' I i i' * row_without d' I i i'
      ≡ sum d (λ f. row_without d' I f i' * row_without d' I f i')
  struck_rows l = omega (
    arith,
    sum-ne d i (λ f. row_without d' I f i' * row_without d' I f i') l,
    sum_cong d (λ f. ap (λ (z : ℕ). z * z) (struck_row d' I i i' f)
        ∙ ne_once i f (row_without d' I f i') (row_without d' I f i')),
  )

  struck_columns : i' < d'
      → column_squares d d' (struck_out I i i') + column_without d I i i' * column_without d I i i'
      ≡ sum d' (λ a. column_without d I i a * column_without d I i a)
  struck_columns l' = omega (
    arith,
    sum-ne d' i' (λ a. column_without d I i a * column_without d I i a) l',
    sum_cong d' (λ a. ap (λ (z : ℕ). z * z) (struck_column d I i i' a)
        ∙ ne_once i' a (column_without d I i a) (column_without d I i a)),
  )

  struck_cells : i < d → i' < d'
      → squares d d' (struck_out I i i') + sum d' (λ a. I i a * I i a) + sum d (λ f. I f i' * I f i')
      ≡ squares d d' I + I i i' * I i i'
  struck_cells l l' = omega (arith, squared, rest_cell_lem d d' (λ f a. I f a * I f a) i i' l l')
    where
      square : (n m x : ℕ) → n * n ≡ n → m * m ≡ m → (n * (m * x)) * (n * (m * x)) ≡ n * (m * (x * x))
      square n m x p q = omega (arith, ap₂ (λ (y z : ℕ). y * z * (x * x)) p q)

      squared : squares d d' (struck_out I i i') ≡ other_cells d d' (λ f a. I f a * I f a) i i'
      squared = unfold other_cells struck_out in sum_cong d (λ f. sum_cong d' (λ a.
          square (ne i f) (ne i' a) (I f a) (bit_sq (not (eqb i f))) (bit_sq (not (eqb i' a)))))

  pub pairs_off_cell : i < d → i' < d'
      → pairs_off d d' I i i' + (row_squares d d' I + column_squares d d' I) ≡ pairs_plus d d' I i i'
  unfolding pairs_off other_cells
  pairs_off_cell l l' = omega (
    arith,
    pairs_apart_lem d d' (struck_out I i i'),
    struck_rows l,
    struck_columns l',
    struck_cells l l',
    row_squares_lem d d' I i' l',
    column_squares_lem d d' I i l,
  )
