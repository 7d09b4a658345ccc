-- The counting theorem: what the claim sums of two shapes say of the sets of four labels.
-- Assumes nothing.
use Rattle.std.specs.Prelude.{◌≡◌}
use Prim.Native.Nat.{ℕ, ◌+◌, ◌*◌}
use Rattle.sums.specs.theorems.FoursLaws.{sets_of_four}
use Rattle.shapes.specs.theorems.PartedFours.{first, second}

-- what four sums over claims say of five counts of sets of four: each sum is so many times the sets that it meets, and
-- each set is in one of the cases
pub record SumsCount (n s s' s2 s3 a b c d e : ℕ) : Type 0 where
  pub first : s ≡ 2 * (a + b + c)
  pub second : s' ≡ 2 * (a + b + d)
  pub same : s2 ≡ 2 * a
  pub different : s3 ≡ 4 * b
  pub all : sets_of_four n ≡ a + b + c + d + e
