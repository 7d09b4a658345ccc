-- Every factor is low, so the products fit.
-- Assumes nothing.
use mathlib.Core.Path.{refl}
use Prim.Native.Nat.{◌+◌, ◌*◌, ◌≤◌}
use native.Mathlib.Omega.{arith}
use Rattle.table_words.specs.Sizes.{tips_most}
use Rattle.sums.specs.theorems.Products.{product_le}
use Rattle.claims.proofs.cell_terms.minus_term.Goals.{Start}
use Rattle.claims.proofs.cell_terms.minus_term.Goals as goal

down_le : (c : Start) → c.args.x * c.args.down ≤ 16777216
down_le c = product_le tips_most 65536 _ _ c.requires.1 c.requires.3

along-le : (c : Start) → c.args.y * c.args.along ≤ 16777216
along-le c = product_le tips_most 65536 _ _ c.requires.2 c.requires.4

all-le : (c : Start)
    → c.args.t * (c.args.x * c.args.down + c.args.y * c.args.along) ≤ 8589934592
all-le c = product_le tips_most 33554432 _ _ c.requires.0 (omega (arith, down_le c, along-le c))

pub overflow_mul-result : goal.overflow_mul-result
overflow_mul-result c = omega (arith, down_le c)

pub overflow_mul-result-2 : goal.overflow_mul-result-2
overflow_mul-result-2 c = omega (arith, along-le c)

pub overflow_add-result : goal.overflow_add-result
overflow_add-result c = omega (arith, down_le c, along-le c)

pub overflow_mul-result-3 : goal.overflow_mul-result-3
overflow_mul-result-3 c = omega (arith, all-le c)

pub returns : goal.returns
returns c = (refl, omega (arith, all-le c))
