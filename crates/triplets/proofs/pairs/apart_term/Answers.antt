-- The products are low.
-- Assumes nothing.
use mathlib.Core.Path.{refl}
use Prim.Native.Nat.{◌*◌, ◌-◌, ◌≤◌}
use native.Mathlib.Omega.{arith}
use Rattle.sums.specs.theorems.Products.{product_le}
use Rattle.shapes.specs.theorems.TripletCounts.{apart_term}
use Rattle.triplets.proofs.pairs.apart_term.Goals.{Start}
use Rattle.triplets.proofs.pairs.apart_term.Goals as goal

low : (c : Start) → (c.args.r - c.args.i) * (c.args.c - c.args.i) ≤ 65536
low c = omega (arith, product_le 256 256 _ _ (less c) (less' c))
  where
    less : (c : Start) → c.args.r - c.args.i ≤ 256
    less c = omega (arith, c.requires)

    less' : (c : Start) → c.args.c - c.args.i ≤ 256
    less' c = omega (arith, c.requires)

pub overflow_mul-result : goal.overflow_mul-result
overflow_mul-result c = omega (arith, low c)

pub overflow_mul-result-2 : goal.overflow_mul-result-2
overflow_mul-result-2 c =
    let a = c.args in
    omega (arith, product_le 256 65536 a.i ((a.r - a.i) * (a.c - a.i)) (omega (arith, c.requires)) (low c))

pub returns : goal.returns
returns c = unfold apart_term in refl
