-- The product is small.
-- Assumes nothing.
use Prim.Native.Nat.{◌-◌}
use native.Mathlib.Omega.{arith}
use Rattle.sums.specs.theorems.Products.{product_le}
use Rattle.exchange_distances.proofs.tallies.all_first.Goals as goal

pub overflow_mul-tallies : goal.overflow_mul-tallies
overflow_mul-tallies c = omega (arith, product_le 256 255 c.args.n (c.args.n - 1) c.requires.1 (omega (arith, c.requires.1)))
