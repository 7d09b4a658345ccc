-- What two nodes add to the claim sums, as a count computes it: over cells and over pairs of rows or columns.
-- Assumes nothing.
use Rattle.std.specs.Prelude.{◌≡◌, ℕ, ◌+◌, ◌*◌}
use Rattle.std.proofs.Math.Path.{sym, ap}
use Rattle.std.proofs.Common.{◌∙◌}
use Rattle.std.proofs.Math.Nat.{mul_comm}
use native.Mathlib.Omega.{arith}
use Rattle.sums.specs.Sum.{sum}
use Rattle.sums.specs.theorems.SumLaws.{sum_ext, sum_cong, sum-swap}
use Rattle.sums.specs.theorems.BitLaws.{ne}
use Rattle.sums.specs.theorems.SetLaws.{tuples2}
use Rattle.sums.specs.SetsOfFour.{sets2}
use Rattle.sums.specs.theorems.Products.{twice_apart}
use Rattle.sums.specs.theorems.Exclusion.{pair_apart}
use Rattle.sums.specs.theorems.Grids.{grid_add, grid_mul_left}
use Rattle.shapes.specs.Claims.{choose2}
use Rattle.node_pairs.specs.theorems.Cells.{pair_s2, pair_s3}
use Rattle.node_pairs.specs.theorems.Aggregates.{transposed, row_squares, column_squares}
use Rattle.node_pairs.specs.theorems.CellForms.{hooks_apart, pair_s2-cells, pair_s3-cells}
use Rattle.node_pairs.specs.theorems.PairsOff.{pairs_plus, pairs_off_cell}
use Rattle.node_pairs.specs.theorems.Hooks.{rectangles, hooks_plus, hooks_minus, hooks_apart_cell}

-- ---- twice S2

pub pair_s2_closed : (d d' : ℕ) (I : ℕ → ℕ → ℕ)
    → pair_s2 d d' I
    + sum d (λ i. sum d' (λ i'. choose2 (I i i') * (row_squares d d' I + column_squares d d' I)))
    ≡ sum d (λ i. sum d' (λ i'. choose2 (I i i') * pairs_plus d d' I i i'))
pair_s2_closed d d' I =
    ap (λ (z : ℕ). z + sum d (λ i. sum d' (λ i'. choose2 (I i i') * lines))) (pair_s2-cells d d' I)
    ∙ sym (grid_add d d' _ _)
    ∙ sum_ext d _ _ (λ i l. sum_ext d' _ _ (λ i' l'.
    omega (arith, ap (λ (z : ℕ). choose2 (I i i') * z) (pairs_off_cell d d' I i i' l l'))))
  where
    lines : ℕ
    lines = row_squares d d' I + column_squares d d' I

-- ---- the rectangles, by pairs of rows

-- the dot product of rows l and i
abbrev pub dot : ℕ → (ℕ → ℕ → ℕ) → ℕ → ℕ → ℕ
dot d' I l i = sum d' (λ a. I l a * I i a)

-- the squares of the dot products of two rows, each pair of rows once
unfoldable pub dot_squares : ℕ → ℕ → (ℕ → ℕ → ℕ) → ℕ
dot_squares d d' I = sets2 d (λ l i. dot d' I l i * dot d' I l i)

-- the squares of the terms of these dot products
unfoldable pub term_squares : ℕ → ℕ → (ℕ → ℕ → ℕ) → ℕ
term_squares d d' I = sets2 d (λ l i. sum d' (λ a. (I l a * I i a) * (I l a * I i a)))

-- each cell times the rectangles at it
abbrev pub all_rectangles : ℕ → ℕ → (ℕ → ℕ → ℕ) → ℕ
all_rectangles d d' I = sum d (λ i. sum d' (λ i'. I i i' * rectangles d d' I i i'))

module _ (d d' : ℕ) (I : ℕ → ℕ → ℕ) where
  -- two different rows, two different columns
  by_rows : all_rectangles d d' I
      ≡ sum d (λ i. sum d (λ l. ne i l
      * sum d' (λ a. sum d' (λ b. ne a b * ((I i a * I l a) * (I i b * I l b))))))
  unfolding rectangles
  by_rows = sum_cong d (λ i.
      sum_cong d' (λ i'. sym (grid_mul_left d d' (I i i') _))
      ∙ sum-swap d' d _
      ∙ sum_cong d (λ l.
      sum_cong d' (λ i'. sum_cong d' (λ l'.
      regroup (I i i') (ne i l) (I l i') (ne i' l') (I i l') (I l l')))
      ∙ grid_mul_left d' d' (ne i l) _))
    where
      regroup : (t n u m w x : ℕ) → t * ((n * u) * (m * w) * x) ≡ n * (m * ((t * u) * (w * x)))
      regroup t n u m w x = omega arith

  pub rectangles_rows : all_rectangles d d' I + 2 * term_squares d d' I ≡ 2 * dot_squares d d' I
  rectangles_rows = omega (arith, by_rows, each, dots-twice, terms-twice)
    where
      dots : ℕ → ℕ → ℕ
      dots i l = dot d' I i l * dot d' I i l

      terms : ℕ → ℕ → ℕ
      terms i l = sum d' (λ a. (I i a * I l a) * (I i a * I l a))

      dots-twice : sum d (λ i. sum d (λ l. ne i l * dots i l)) ≡ 2 * dot_squares d d' I
      dots-twice = unfold dot_squares tuples2 in twice_apart d dots (λ i l.
          ap (λ (z : ℕ). z * z) (sum_cong d' (λ a. mul_comm (I i a) (I l a))))

      terms-twice : sum d (λ i. sum d (λ l. ne i l * terms i l)) ≡ 2 * term_squares d d' I
      terms-twice = unfold term_squares tuples2 in twice_apart d terms (λ i l.
          sum_cong d' (λ a. ap (λ (z : ℕ). z * z) (mul_comm (I i a) (I l a))))

      each : sum d (λ i. sum d (λ l. ne i l
          * sum d' (λ a. sum d' (λ b. ne a b * ((I i a * I l a) * (I i b * I l b))))))
          + sum d (λ i. sum d (λ l. ne i l * terms i l))
          ≡ sum d (λ i. sum d (λ l. ne i l * dots i l))
      each =
          sym (grid_add d d _ _)
          ∙ sum_cong d (λ i. sum_cong d (λ l. omega (
            arith,
            ap (λ (z : ℕ). ne i l * z) (pair_apart d' (λ a. I i a * I l a) (λ a. I i a * I l a)),
          )))

  -- the rectangles of the transposed matrix are the same
  rectangles-transposed : all_rectangles d' d (transposed I) ≡ all_rectangles d d' I
  unfolding rectangles
  rectangles-transposed =
      sum-swap d' d (λ i' i. I i i' * rectangles d' d (transposed I) i' i)
      ∙ sum_cong d (λ i. sum_cong d' (λ i'. ap (λ (z : ℕ). I i i' * z)
      (sum-swap d' d _
      ∙ sum_cong d (λ l. sum_cong d' (λ l'.
      ap (λ (z : ℕ). z * I l l') (mul_comm (ne i' l' * I i l') (ne i l * I l i')))))))

  -- ---- S3

  -- with the pairs of rows
  pub pair_s3_rows :
      pair_s3 d d' I + sum d (λ i. sum d' (λ i'. I i i' * hooks_minus d d' I i i')) + 2 * term_squares d d' I
      ≡ sum d (λ i. sum d' (λ i'. I i i' * hooks_plus d d' I i i')) + 2 * dot_squares d d' I
  pair_s3_rows = omega (arith, pair_s3-cells d d' I, rectangles_rows, cells)
    where
      cells : sum d (λ i. sum d' (λ i'. I i i' * hooks_apart d d' I i i'))
          + sum d (λ i. sum d' (λ i'. I i i' * hooks_minus d d' I i i'))
          ≡ sum d (λ i. sum d' (λ i'. I i i' * hooks_plus d d' I i i')) + all_rectangles d d' I
      cells =
          sym (grid_add d d' _ _)
          ∙ sum_ext d _ _ (λ i l. sum_ext d' _ _ (λ i' l'.
          omega (arith, ap (λ (z : ℕ). I i i' * z) (hooks_apart_cell d d' I i i' l l'))))
          ∙ grid_add d d' (λ i i'. I i i' * hooks_plus d d' I i i') (λ i i'. I i i' * rectangles d d' I i i')

-- with the pairs of columns
pub pair_s3_columns : (d d' : ℕ) (I : ℕ → ℕ → ℕ)
    → pair_s3 d d' I + sum d (λ i. sum d' (λ i'. I i i' * hooks_minus d d' I i i'))
    + 2 * term_squares d' d (transposed I)
    ≡ sum d (λ i. sum d' (λ i'. I i i' * hooks_plus d d' I i i')) + 2 * dot_squares d' d (transposed I)
pair_s3_columns d d' I = omega (
  arith,
  pair_s3_rows d d' I,
  rectangles_rows d d' I,
  rectangles_rows d' d (transposed I),
  rectangles-transposed d d' I,
)
