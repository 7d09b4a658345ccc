-- No product wraps, and below four the formula is 0.
-- Assumes nothing.
use mathlib.Core.Path.{sym, refl}
use native.Mathlib.Omega.{arith}
use Rattle.sums.specs.Fours.{fours}
use Rattle.sums.specs.theorems.FoursLaws.{fours_none}
use Rattle.sums.specs.theorems.FourArithmetic.{four_arithmetic}
use Rattle.counting.proofs.fours.few_sets.Goals as goal

pub returns-then-k-lt4 : goal.returns-then-k-lt4
returns-then-k-lt4 c = sym (fours_none _ c.if-k-lt4.true)

pub overflow_mul-result : goal.overflow_mul-result
overflow_mul-result c = omega (arith, (four_arithmetic _ c.requires).first_product)

pub overflow_mul-result-2 : goal.overflow_mul-result-2
overflow_mul-result-2 c = omega (arith, (four_arithmetic _ c.requires).second_product)

pub overflow_mul-result-3 : goal.overflow_mul-result-3
overflow_mul-result-3 c = omega (arith, (four_arithmetic _ c.requires).third_product)

pub returns : goal.returns
unfolding fours
returns c = refl
