-- No product wraps, and below four the formula is 0.
-- Assumes nothing.
use mathlib.Core.Path.{◌≡◌, sym, ◌∙◌, ap, ap₂}
use Prim.Native.Nat.{ℕ, ◌*◌, ◌-◌, ◌/◌, ◌≤◌, ◌<◌}
use native.Mathlib.Nat.{mul-le-mul}
use native.Mathlib.Omega.{arith}
use Rattle.sums.specs.theorems.ThreesLaws.{threes, threes_none}
use Rattle.counting.proofs.threes.sets_of_three.Goals as goal

-- the products of two and three numbers below 2^16
of_two : (n : ℕ) → n ≤ 65535 → (n - 1) * (n - 2) ≤ 4294639622
of_two n h = mul-le-mul {n₂ = 65534} {m₂ = 65533} (omega (arith, h)) (omega (arith, h))

of_three : (n : ℕ) → n ≤ 65535 → (n - 1) * (n - 2) * (n - 3) ≤ 281436323708904
of_three n h = mul-le-mul {m₂ = 65532} (of_two n h) (omega (arith, h))

-- the formula as the definition has it
formula : (n : ℕ) → (n - 1) * (n - 2) * (n - 3) / 6 ≡ threes (n - 1)
unfolding threes
formula n = ap₂ (λ (x y : ℕ). (n - 1) * x * y / 6) (less n) (less-still n)
  where
    less : (n : ℕ) → n - 2 ≡ n - 1 - 1
    less n = omega arith

    less-still : (n : ℕ) → n - 3 ≡ n - 1 - 2
    less-still n = omega arith

pub returns-then-n-lt4 : goal.returns-then-n-lt4
returns-then-n-lt4 c = sym (threes_none _ (omega arith))

pub overflow_mul-result : goal.overflow_mul-result
overflow_mul-result c = omega (arith, of_two c.from-n.result (omega (arith, c.from-n.ensures)))

pub overflow_mul-result-2 : goal.overflow_mul-result-2
overflow_mul-result-2 c = omega (arith, of_three c.from-n.result (omega (arith, c.from-n.ensures)))

pub returns : goal.returns
returns c = formula _ ∙ ap (λ (k : ℕ). threes (k - 1)) c.from-n.ensures
