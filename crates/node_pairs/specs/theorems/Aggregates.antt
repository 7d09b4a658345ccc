-- The sums of a matrix of d rows and d' columns: by rows, by columns, without one row or one column.
-- Assumes nothing.
use Rattle.std.specs.Prelude.{◌≡◌, ℕ, ◌+◌, ◌*◌, ◌<◌}
use Rattle.std.proofs.Common.{◌∙◌, mul_left_comm, arith}
use Rattle.sums.specs.Sum.{sum}
use Rattle.sums.specs.theorems.SumLaws.{sum_cong, sum-add, sum-mul_left}
use Rattle.sums.specs.theorems.BitLaws.{ne}
use Rattle.sums.specs.theorems.Products.{sum-ne}

-- the matrix whose rows are the columns of I
abbrev pub transposed : (ℕ → ℕ → ℕ) → ℕ → ℕ → ℕ
transposed I a f = I f a

-- ---- rows, columns and all cells

-- row f
abbrev pub row_sum : ℕ → (ℕ → ℕ → ℕ) → ℕ → ℕ
row_sum d' I f = sum d' (λ a. I f a)

-- column a
abbrev pub column_sum : ℕ → (ℕ → ℕ → ℕ) → ℕ → ℕ
column_sum d I a = sum d (λ f. I f a)

-- all cells
abbrev pub whole : ℕ → ℕ → (ℕ → ℕ → ℕ) → ℕ
whole d d' I = sum d (λ f. sum d' (λ a. I f a))

-- the squares of all cells
abbrev pub squares : ℕ → ℕ → (ℕ → ℕ → ℕ) → ℕ
squares d d' I = sum d (λ f. sum d' (λ a. I f a * I f a))

-- the squares of the row sums
abbrev pub row_squares : ℕ → ℕ → (ℕ → ℕ → ℕ) → ℕ
row_squares d d' I = sum d (λ f. row_sum d' I f * row_sum d' I f)

-- the squares of the column sums
abbrev pub column_squares : ℕ → ℕ → (ℕ → ℕ → ℕ) → ℕ
column_squares d d' I = sum d' (λ a. column_sum d I a * column_sum d I a)

-- ---- without one row or one column

-- row f without its cell in column i'
unfoldable pub row_without : ℕ → (ℕ → ℕ → ℕ) → ℕ → ℕ → ℕ
row_without d' I f i' = sum d' (λ a. ne i' a * I f a)

-- column a without its cell in row i
unfoldable pub column_without : ℕ → (ℕ → ℕ → ℕ) → ℕ → ℕ → ℕ
column_without d I i a = sum d (λ f. ne i f * I f a)

-- down column i', each cell times the rest of its row
unfoldable pub down : ℕ → ℕ → (ℕ → ℕ → ℕ) → ℕ → ℕ
down d d' I i' = sum d (λ f. I f i' * row_without d' I f i')

-- along row i, each cell times the rest of its column
unfoldable pub along : ℕ → ℕ → (ℕ → ℕ → ℕ) → ℕ → ℕ
along d d' I i = sum d' (λ a. I i a * column_without d I i a)

-- the matrix with zeros in row i and in column i'
unfoldable pub struck_out : (ℕ → ℕ → ℕ) → ℕ → ℕ → ℕ → ℕ → ℕ
struck_out I i i' f a = ne i f * (ne i' a * I f a)

-- all cells but those of row i and of column i'
unfoldable pub other_cells : ℕ → ℕ → (ℕ → ℕ → ℕ) → ℕ → ℕ → ℕ
other_cells d d' I i i' = whole d d' (struck_out I i i')

-- ---- what was left out comes back

pub row_cell : (d' : ℕ) (I : ℕ → ℕ → ℕ) (f i' : ℕ) → i' < d' → row_without d' I f i' + I f i' ≡ row_sum d' I f
unfolding row_without
row_cell d' I f i' l = sum-ne d' i' (λ a. I f a) l

pub column_cell : (d : ℕ) (I : ℕ → ℕ → ℕ) (i a : ℕ) → i < d
    → column_without d I i a + I i a ≡ column_sum d I a
unfolding column_without
column_cell d I i a l = sum-ne d i (λ f. I f a) l

pub struck_row : (d' : ℕ) (I : ℕ → ℕ → ℕ) (i i' f : ℕ)
    → row_sum d' (struck_out I i i') f ≡ ne i f * row_without d' I f i'
unfolding struck_out row_without
struck_row d' I i i' f = sum-mul_left d' (ne i f) _

pub struck_column : (d : ℕ) (I : ℕ → ℕ → ℕ) (i i' a : ℕ)
    → column_sum d (struck_out I i i') a ≡ ne i' a * column_without d I i a
unfolding struck_out column_without
struck_column d I i i' a =
    sum_cong d (λ f. mul_left_comm (ne i f) (ne i' a) (I f a)) ∙ sum-mul_left d (ne i' a) _

pub rest_cell_lem : (d d' : ℕ) (I : ℕ → ℕ → ℕ) (i i' : ℕ) → i < d → i' < d'
    → other_cells d d' I i i' + row_sum d' I i + column_sum d I i' ≡ whole d d' I + I i i'
unfolding other_cells
rest_cell_lem d d' I i i' l l' = omega (
  arith,
  sum_cong d (λ f. struck_row d' I i i' f),
  sum-ne d i (λ f. row_without d' I f i') l,
  row_cell d' I i i' l',
  sum-add d (λ f. row_without d' I f i') (λ f. I f i'),
  sum_cong d (λ f. row_cell d' I f i' l'),
)
