-- Every product is small.
-- Assumes nothing.
use Prim.Native.Nat.{◌*◌, ◌-◌, ◌≤◌}
use mathlib.Core.Path.{refl}
use native.Mathlib.Omega.{arith}
use Rattle.exchanges.specs.theorems.Walk.{whole_cost}
use Rattle.exchange_distances.specs.lemmas.Powers.{square_le, cube_le}
use Rattle.exchange_distances.proofs.pairs.whole_of.Goals.{Start}
use Rattle.exchange_distances.proofs.pairs.whole_of.Goals as goal

square : (c : Start) → (c.args.n - 2) * (c.args.n - 2) ≤ 65536
square c = square_le _ (omega (arith, c.requires.1))

cube : (c : Start) → (c.args.n - 2) * ((c.args.n - 2) * (c.args.n - 2)) ≤ 16777216
cube c = cube_le _ (omega (arith, c.requires.1))

pub overflow_mul-result : goal.overflow_mul-result
overflow_mul-result c = omega (arith, square c, cube c)

pub overflow_mul-result-2 : goal.overflow_mul-result-2
overflow_mul-result-2 c = omega (arith, square c, cube c)

pub overflow_mul-result-3 : goal.overflow_mul-result-3
overflow_mul-result-3 c = omega (arith, square c, cube c)

pub overflow_mul-result-4 : goal.overflow_mul-result-4
overflow_mul-result-4 c = omega (arith, square c, cube c)

pub overflow_mul-result-5 : goal.overflow_mul-result-5
overflow_mul-result-5 c = omega (arith, square c, cube c)

pub overflow_add-result : goal.overflow_add-result
overflow_add-result c = omega (arith, square c, cube c)

pub returns : goal.returns
returns c = unfold whole_cost in refl
