-- The weight of stars, and the weighted distance of a pair call (docs/SPECIFICATION.md, 'The weight of stars', 'Weighted
-- distance'). A float `fin s m e` is m · 2 ^ e, negative where s is true; `round binary64 false n d` is the 64-bit float
-- nearest to n/d; `HasValue x s n d` says that x is finite, has the sign s and is n/d in size.
-- Assumes nothing.
use Rattle.std.specs.Prelude.{◌≡◌, Bool, true, false, ℕ, pos, Float}
use Rattle.std.specs.Float.{fin, binary64}
use Rattle.std.specs.Float.Ieee.{round, eq}
use Rattle.std.specs.Float.Ieee.Exact.{HasValue}
use Rattle.sums.specs.Tests.{first}
use Rattle.weights.specs.declared.weight.Weight.{Weight}
use Rattle.weights.specs.declared.weight.Weight.TheVariants.{None, Full, Part}

-- n/256 as a float; for the numbers n that occur it is exact
abbrev pub over256 : ℕ → Float
over256 n = round binary64 false n 256

-- the weight as a fraction p: nothing is 0, full is 1, a part is its fraction
abbrev pub p_of : Weight → Float
p_of None = fin false 0 (pos 0)
p_of Full = fin false 1 (pos 0)
p_of (Part x) = x

-- the k of 0 to 256 for which p is k/256, and 257 if there is none; minus zero is zero, and NaN is none
unfoldable pub numerator_of : Float → ℕ
numerator_of p = first 257 (λ k. eq p (over256 k))

-- the same in ordinary mathematics: x is finite, k/256 in size, and negative only where k is 0, so that minus zero is zero
pub record IsFraction (x : Float) (k : ℕ) : Type 0 where
  pub sign : Bool
  pub value : HasValue x sign k 256
  pub zero_if : sign ≡ true → k ≡ 0
