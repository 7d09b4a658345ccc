-- No product wraps.
-- Assumes nothing.
use mathlib.Core.Path.{ap}
use Prim.Native.Nat.{ℕ, ◌*◌, ◌-◌, ◌≤◌}
use native.Mathlib.Nat.{mul-le-mul}
use native.Mathlib.Omega.{arith}
use Rattle.sums.specs.Fours.{fours}
use Rattle.counting.proofs.fours.sets_of_four.Goals as goal

-- the products of two, three and four numbers below 2^16
of_two : (n : ℕ) → n ≤ 65535 → n * (n - 1) ≤ 4294770690
of_two n h = mul-le-mul {m₂ = 65534} h (omega (arith, h))

of_three : (n : ℕ) → n ≤ 65535 → n * (n - 1) * (n - 2) ≤ 281449207627770
of_three n h = mul-le-mul {m₂ = 65533} (of_two n h) (omega (arith, h))

of_four : (n : ℕ) → n ≤ 65535 → n * (n - 1) * (n - 2) * (n - 3) ≤ 18443929474263023640
of_four n h = mul-le-mul {m₂ = 65532} (of_three n h) (omega (arith, h))

pub overflow_mul-result : goal.overflow_mul-result
overflow_mul-result c = omega (arith, of_two c.from-n.result (omega (arith, c.from-n.ensures)))

pub overflow_mul-result-2 : goal.overflow_mul-result-2
overflow_mul-result-2 c = omega (arith, of_three c.from-n.result (omega (arith, c.from-n.ensures)))

pub overflow_mul-result-3 : goal.overflow_mul-result-3
overflow_mul-result-3 c = omega (arith, of_four c.from-n.result (omega (arith, c.from-n.ensures)))

pub returns : goal.returns
unfolding fours
returns c = ap fours c.from-n.ensures
