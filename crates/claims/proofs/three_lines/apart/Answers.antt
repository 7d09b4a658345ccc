-- Sums of lines are at most 256, and the products at the same place are some of all.
-- Assumes nothing.
use Prim.Native.Nat.{◌*◌, ◌≤◌}
use native.Mathlib.Omega.{arith}
use Rattle.table_words.specs.Sizes.{tips_most}
use Rattle.sums.specs.theorems.Products.{product_le}
use Rattle.claims.proofs.three_lines.apart.Goals.{Start}
use Rattle.claims.proofs.three_lines.apart.Goals as goal

all-le : (c : Start) → c.args.x * c.args.y ≤ 65536
all-le c = product_le tips_most tips_most _ _ c.requires.0 c.requires.1

pub overflow_mul-result : goal.overflow_mul-result
overflow_mul-result c = omega (arith, all-le c)

pub overflow_sub-result : goal.overflow_sub-result
overflow_sub-result c = omega (arith, c.requires.2)

pub returns : goal.returns
returns c = omega (arith, all-le c, c.requires.2)
