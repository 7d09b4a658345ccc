-- What two nodes with three codes into each add to the claim sums, written out over the nine cells.
-- Assumes nothing.
use Rattle.std.specs.Prelude.{◌≡◌, ℕ, ◌+◌, ◌*◌}
use Rattle.std.proofs.Common.{◌∙◌, arith}
use Rattle.shapes.specs.Claims.{choose2}
use Rattle.node_pairs.specs.theorems.Cells.{sum_apart, pair_s2, pair_s3}
use Rattle.node_pairs.specs.theorems.ApartSums.{orders}

-- what a cell t gives, where the other two rows have p, q and r, s in the other two columns: for S2 ..
abbrev pub term_s2 : ℕ → ℕ → ℕ → ℕ → ℕ → ℕ
term_s2 t p q r s = choose2 t * (p * s + q * r)

-- .. and for S3
abbrev pub term_s3 : ℕ → ℕ → ℕ → ℕ → ℕ → ℕ
term_s3 t p q r s = t * (p * q * (r + s) + r * s * (p + q))

-- the three cells of row x, where y and z are the other rows
unfoldable pub sum_row : (ℕ → ℕ → ℕ → ℕ → ℕ → ℕ) → (ℕ → ℕ) → (ℕ → ℕ) → (ℕ → ℕ) → ℕ
sum_row F x y z =
    F (x 0) (y 1) (y 2) (z 1) (z 2)
    + F (x 1) (y 2) (y 0) (z 2) (z 0)
    + F (x 2) (y 0) (y 1) (z 0) (z 1)

-- all nine cells
unfoldable pub sum_nine : (ℕ → ℕ → ℕ → ℕ → ℕ → ℕ) → (ℕ → ℕ → ℕ) → ℕ
sum_nine F I = sum_row F (I 0) (I 1) (I 2) + sum_row F (I 1) (I 2) (I 0) + sum_row F (I 2) (I 0) (I 1)

-- ---- S2

-- the first row gives a pair, the other two a cell each
abbrev rows_s2 : (ℕ → ℕ) → (ℕ → ℕ) → (ℕ → ℕ) → ℕ
rows_s2 x y z = sum_apart 3 (λ i j l. choose2 (x i) * (y j * z l))

row_s2_lem : (x y z : ℕ → ℕ) → rows_s2 x y z + rows_s2 x z y ≡ 2 * sum_row term_s2 x y z
unfolding sum_row
row_s2_lem x y z = simp orders (omega arith)

pub pair_s2_three : (I : ℕ → ℕ → ℕ) → pair_s2 3 3 I ≡ 2 * sum_nine term_s2 I
unfolding pair_s2 sum_nine
pair_s2_three I = orders (λ i j l. rows_s2 (I i) (I j) (I l))
    ∙ omega (arith, row_s2_lem (I 0) (I 1) (I 2), row_s2_lem (I 1) (I 2) (I 0), row_s2_lem (I 2) (I 0) (I 1))

-- ---- S3

-- the first row gives two cells, the other two a cell each
abbrev rows_s3 : (ℕ → ℕ) → (ℕ → ℕ) → (ℕ → ℕ) → ℕ
rows_s3 x y z = sum_apart 3 (λ i j l. x i * x l * (y j * z i))

row_s3_lem : (x y z : ℕ → ℕ) → rows_s3 y x z + rows_s3 z x y ≡ sum_row term_s3 x y z
unfolding sum_row
row_s3_lem x y z = simp orders (omega (
  arith,
  split (x 0) (y 1) (y 2) (z 1) (z 2),
  split (x 1) (y 2) (y 0) (z 2) (z 0),
  split (x 2) (y 0) (y 1) (z 0) (z 1),
))
  where
    split : (t p q r s : ℕ)
        → term_s3 t p q r s ≡ p * q * (t * r) + q * p * (t * s) + (r * s * (t * p) + s * r * (t * q))
    split t p q r s = omega arith

pub pair_s3_three : (I : ℕ → ℕ → ℕ) → pair_s3 3 3 I ≡ sum_nine term_s3 I
unfolding pair_s3 sum_nine
pair_s3_three I = orders (λ i j l. rows_s3 (I i) (I j) (I l))
    ∙ omega (arith, row_s3_lem (I 0) (I 1) (I 2), row_s3_lem (I 1) (I 2) (I 0), row_s3_lem (I 2) (I 0) (I 1))
