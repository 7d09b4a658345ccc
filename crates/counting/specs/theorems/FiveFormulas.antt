-- The five formulas give the five counts, for any numbers that the counting theorem is true of, and for any two shapes.
-- Assumes nothing.
use Rattle.std.specs.Prelude.{◌≡◌, ℕ, ◌+◌}
use Rattle.sums.specs.Fours.{fours}
use Rattle.counting.specs.QuartetTable.{formula_a, formula_b, formula_c, formula_d, formula_e}

-- the formulas, with ordinary division and subtraction
pub record FormulasCount (n s s' s2 s3 a b c d e : ℕ) : Type 0 where
  pub A_counts : formula_a s2 ≡ a
  pub B_counts : formula_b s3 ≡ b
  pub C_counts : formula_c s s2 s3 ≡ c
  pub D_counts : formula_d s' s2 s3 ≡ d
  pub E_counts : formula_e n s s' s2 s3 ≡ e
  pub all : fours n ≡ a + b + c + d + e
