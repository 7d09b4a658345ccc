-- The closed form of the hooks at a cell, each times the cells apart from it, up to rectangles of four cells.
-- Assumes nothing.
use Rattle.std.specs.Prelude.{◌≡◌, not, ℕ, ◌+◌, ◌*◌, ◌<◌, eqb}
use Rattle.std.proofs.Common.{◌∙◌, ap, ap₂}
use native.Mathlib.Omega.{arith}
use Rattle.sums.specs.Sum.{sum}
use Rattle.sums.specs.theorems.SumLaws.{sum_ext, sum_cong, sum-add, sum-mul_left, sum-mul_right}
use Rattle.sums.specs.theorems.BitLaws.{ne}
use Rattle.sums.specs.theorems.Products.{bit_sq, ne_once, sum-ne}
use Rattle.node_pairs.specs.theorems.Aggregates.{transposed, row_without, column_without, down, along}
use Rattle.node_pairs.specs.theorems.Aggregates.{struck_out, other_cells, struck_row, struck_column, rest_cell_lem}
use Rattle.node_pairs.specs.theorems.CellForms.{hook, hooks_apart}

-- the hooks at cell i, i', each times the fourth cell of its rectangle
unfoldable pub rectangles : ℕ → ℕ → (ℕ → ℕ → ℕ) → ℕ → ℕ → ℕ
rectangles d d' I i i' = sum d (λ l. sum d' (λ l'. hook I i i' l l' * I l l'))

-- the hooks at cell i, i' but for the rectangles: what is counted ..
abbrev pub hooks_plus : ℕ → ℕ → (ℕ → ℕ → ℕ) → ℕ → ℕ → ℕ
hooks_plus d d' I i i' =
    other_cells d d' I i i' * (column_without d I i i' * row_without d' I i i')
    + I i i' * (row_without d' I i i' * row_without d' I i i' + column_without d I i i' * column_without d I i i')

-- .. and what is too much in that
abbrev pub hooks_minus : ℕ → ℕ → (ℕ → ℕ → ℕ) → ℕ → ℕ → ℕ
hooks_minus d d' I i i' = row_without d' I i i' * down d d' I i' + column_without d I i i' * along d d' I i

-- a sum of products, where one factor is made up of a constant, a row's, a column's and a cell's part
by_parts : (d d' : ℕ) (a b r s : ℕ → ℕ) (o e : ℕ → ℕ → ℕ) (t : ℕ)
    → ((m m' : ℕ) → m < d → m' < d' → o m m' + r m + s m' ≡ t + e m m')
    → sum d (λ m. sum d' (λ m'. a m * b m' * o m m'))
    + sum d (λ m. a m * r m) * sum d' b + sum d a * sum d' (λ m'. b m' * s m')
    ≡ sum d a * sum d' b * t + sum d (λ m. sum d' (λ m'. a m * b m' * e m m'))
by_parts d d' a b r s o e t h = simp (sum-add, sum-mul_left, sum-mul_right) at each
  where
    cell : (a b o r s t e : ℕ) → o + r + s ≡ t + e
        → a * b * o + a * r * b + a * (b * s) ≡ a * b * t + a * b * e
    cell a b o r s t e p = omega (arith, ap (λ (z : ℕ). a * b * z) p)

    each : sum d (λ m. sum d' (λ m'. a m * b m' * o m m' + a m * r m * b m' + a m * (b m' * s m')))
        ≡ sum d (λ m. sum d' (λ m'. a m * b m' * t + a m * b m' * e m m'))
    each = sum_ext d _ _ (λ m l. sum_ext d' _ _ (λ m' l'.
        cell (a m) (b m') (o m m') (r m) (s m') t (e m m') (h m m' l l')))

-- down a column, without the row of a cell of it
down_cell : (d d' : ℕ) (I : ℕ → ℕ → ℕ) (i i' : ℕ) → i < d
    → sum d (λ m. (ne i m * I m i') * (ne i m * row_without d' I m i')) + I i i' * row_without d' I i i'
    ≡ down d d' I i'
unfolding down
down_cell d d' I i i' l =
    ap (λ (z : ℕ). z + I i i' * row_without d' I i i')
    (sum_cong d (λ m. ne_once i m (I m i') (row_without d' I m i')))
    ∙ sum-ne d i (λ m. I m i' * row_without d' I m i') l

-- along a row, without the column of a cell of it
along_cell : (d d' : ℕ) (I : ℕ → ℕ → ℕ) (i i' : ℕ) → i' < d'
    → sum d' (λ m. (ne i' m * I i m) * (ne i' m * column_without d I i m)) + I i i' * column_without d I i i'
    ≡ along d d' I i
unfolding along column_without down row_without
along_cell d d' I i i' l' = down_cell d' d (transposed I) i' i l'

module _ (d d' : ℕ) (I : ℕ → ℕ → ℕ) (i i' : ℕ) where
  pub hooks_apart_cell : i < d → i' < d'
      → hooks_apart d d' I i i' + hooks_minus d d' I i i' ≡ hooks_plus d d' I i i' + rectangles d d' I i i'
  hooks_apart_cell l l' = omega (
    arith,
    summed,
    closed,
    ap (λ (z : ℕ). row_without d' I i i' * z) (down_cell d d' I i i' l),
    ap (λ (z : ℕ). column_without d I i i' * z) (along_cell d d' I i i' l'),
  )
    where
      off : ℕ → ℕ → ℕ
      off = struck_out I i i'

      -- the cells apart from a hook
      others : (m m' : ℕ) → m < d → m' < d'
          → other_cells d d' off m m' + ne i m * row_without d' I m i' + ne i' m' * column_without d I i m'
          ≡ other_cells d d' I i i' + off m m'
      others m m' lm lm' = unfold other_cells in omega (
        arith,
        rest_cell_lem d d' off m m' lm lm',
        struck_row d' I i i' m,
        struck_column d I i i' m',
      )

      summed : hooks_apart d d' I i i'
          + sum d (λ m. (ne i m * I m i') * (ne i m * row_without d' I m i')) * row_without d' I i i'
          + column_without d I i i' * sum d' (λ m. (ne i' m * I i m) * (ne i' m * column_without d I i m))
          ≡ column_without d I i i' * row_without d' I i i' * other_cells d d' I i i'
          + sum d (λ m. sum d' (λ m'. hook I i i' m m' * off m m'))
      summed = unfold hooks_apart row_without column_without in
          by_parts d d' (λ m. ne i m * I m i') (λ m'. ne i' m' * I i m')
          (λ m. ne i m * row_without d' I m i') (λ m'. ne i' m' * column_without d I i m')
          (λ m m'. other_cells d d' off m m') off (other_cells d d' I i i') others

      once : (n m x y z : ℕ) → n * n ≡ n → m * m ≡ m
          → (n * x) * (m * y) * (n * (m * z)) ≡ (n * x) * (m * y) * z
      once n m x y z p q = omega (arith, ap₂ (λ (v w : ℕ). v * w * (x * y * z)) p q)

      closed : sum d (λ m. sum d' (λ m'. hook I i i' m m' * off m m')) ≡ rectangles d d' I i i'
      closed = unfold rectangles struck_out in sum_cong d (λ m. sum_cong d' (λ m'.
          once (ne i m) (ne i' m') (I m i') (I i m') (I m m')
          (bit_sq (not (eqb i m))) (bit_sq (not (eqb i' m')))))
