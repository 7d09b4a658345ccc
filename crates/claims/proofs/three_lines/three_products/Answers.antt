-- Products of low numbers fit.
-- Assumes nothing.
use mathlib.Core.Path.{refl}
use Prim.Native.Nat.{◌*◌, ◌≤◌}
use native.Mathlib.Omega.{arith}
use Rattle.sums.specs.theorems.Products.{product_le}
use Rattle.claims.proofs.three_lines.three_products.Goals.{Start}
use Rattle.claims.proofs.three_lines.three_products.Goals as goal

first : (c : Start) → c.args.a * c.args.x ≤ 1125899906842624
first c = product_le 8589934592 131072 _ _ c.requires.sums_low.0 c.requires.cells_low.0

second : (c : Start) → c.args.b * c.args.y ≤ 1125899906842624
second c = product_le 8589934592 131072 _ _ c.requires.sums_low.1 c.requires.cells_low.1

third : (c : Start) → c.args.c * c.args.z ≤ 1125899906842624
third c = product_le 8589934592 131072 _ _ c.requires.sums_low.2 c.requires.cells_low.2

pub overflow_mul-result : goal.overflow_mul-result
overflow_mul-result c = omega (arith, first c)

pub overflow_mul-result-2 : goal.overflow_mul-result-2
overflow_mul-result-2 c = omega (arith, second c)

pub overflow_add-result : goal.overflow_add-result
overflow_add-result c = omega (arith, first c, second c)

pub overflow_mul-result-3 : goal.overflow_mul-result-3
overflow_mul-result-3 c = omega (arith, third c)

pub overflow_add-result-2 : goal.overflow_add-result-2
overflow_add-result-2 c = omega (arith, first c, second c, third c)

pub returns : goal.returns
returns c = (refl, omega (arith, first c, second c, third c))
