-- Every factor is 256 at most, so the products fit.
-- Assumes nothing.
use mathlib.Core.Path.{refl}
use Prim.Native.Nat.{ℕ, ◌+◌, ◌*◌, ◌≤◌}
use native.Mathlib.Omega.{arith}
use Rattle.table_words.specs.Sizes.{tips_most}
use Rattle.sums.specs.theorems.Products.{product_le}
use Rattle.claims.proofs.cell_terms.plus_term.Goals as goal

module _ (t rest x y : ℕ) (h : (t ≤ tips_most) × (rest ≤ tips_most) × (x ≤ tips_most) × (y ≤ tips_most)) where
  corners-le : y * x ≤ 65536
  corners-le = product_le tips_most tips_most y x h.3 h.2

  rest_le : rest * (y * x) ≤ 16777216
  rest_le = product_le tips_most 65536 rest (y * x) h.1 corners-le

  row-le : x * x ≤ 65536
  row-le = product_le tips_most tips_most x x h.2 h.2

  column-le : y * y ≤ 65536
  column-le = product_le tips_most tips_most y y h.3 h.3

  cell-le : t * (x * x + y * y) ≤ 33554432
  cell-le = product_le tips_most 131072 t (x * x + y * y) h.0 (omega (arith, row-le, column-le))

  all-le : t * (rest * (y * x) + t * (x * x + y * y)) ≤ 12884901888
  all-le = product_le tips_most 50331648 t _ h.0 (omega (arith, rest_le, cell-le))

pub overflow_mul-result : goal.overflow_mul-result
overflow_mul-result c = omega (arith, corners-le _ _ _ _ c.requires)

pub overflow_mul-result-2 : goal.overflow_mul-result-2
overflow_mul-result-2 c = omega (arith, rest_le _ _ _ _ c.requires)

pub overflow_mul-result-3 : goal.overflow_mul-result-3
overflow_mul-result-3 c = omega (arith, row-le _ _ _ _ c.requires)

pub overflow_mul-result-4 : goal.overflow_mul-result-4
overflow_mul-result-4 c = omega (arith, column-le _ _ _ _ c.requires)

pub overflow_add-result : goal.overflow_add-result
overflow_add-result c = omega (arith, row-le _ _ _ _ c.requires, column-le _ _ _ _ c.requires)

pub overflow_mul-result-5 : goal.overflow_mul-result-5
overflow_mul-result-5 c = omega (arith, cell-le _ _ _ _ c.requires)

pub overflow_add-result-2 : goal.overflow_add-result-2
overflow_add-result-2 c = omega (arith, rest_le _ _ _ _ c.requires, cell-le _ _ _ _ c.requires)

pub overflow_mul-result-6 : goal.overflow_mul-result-6
overflow_mul-result-6 c = omega (arith, all-le _ _ _ _ c.requires)

pub returns : goal.returns
returns c = (refl, omega (arith, all-le _ _ _ _ c.requires))
