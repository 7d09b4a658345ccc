-- Each factor is at most 256, so the product of two is at most 2¹⁶, of three 2²⁴ and of four 2³².
-- Assumes nothing.
use Prim.Native.Nat.{ℕ, ◌*◌, ◌-◌, ◌≤◌}
use native.Mathlib.Nat.{mul-le-mul}
use native.Mathlib.Omega.{arith}
use Rattle.examples.proofs.verdict.sets_of_four.Goals as goal

of_two : (n : ℕ) → n ≤ 256 → n * (n - 1) ≤ 65536
of_two n h = mul-le-mul {m₂ = 256} h (omega (arith, h))

of_three : (n : ℕ) → n ≤ 256 → n * (n - 1) * (n - 2) ≤ 16777216
of_three n h = mul-le-mul {m₂ = 256} (of_two n h) (omega (arith, h))

of_four : (n : ℕ) → n ≤ 256 → n * (n - 1) * (n - 2) * (n - 3) ≤ 4294967296
of_four n h = mul-le-mul {m₂ = 256} (of_three n h) (omega (arith, h))

pub overflow_mul-result : goal.overflow_mul-result
overflow_mul-result c = omega (arith, of_two _ c.if-n-gt256.false)

pub overflow_mul-result-2 : goal.overflow_mul-result-2
overflow_mul-result-2 c = omega (arith, of_three _ c.if-n-gt256.false)

pub overflow_mul-result-3 : goal.overflow_mul-result-3
overflow_mul-result-3 c = omega (arith, of_four _ c.if-n-gt256.false)
