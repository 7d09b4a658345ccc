-- The quartet table's five formulas, from the four claim sums and n alone (docs/SPECIFICATION.md, 'The five formulas').
-- Assumes nothing.
use Rattle.std.specs.Prelude.{ℕ, ◌-◌, ◌/◌}
use Rattle.sums.specs.Fours.{fours}

-- A = S2/2
unfoldable pub formula_a : ℕ → ℕ
formula_a s2 = s2 / 2

-- B = S3/4
unfoldable pub formula_b : ℕ → ℕ
formula_b s3 = s3 / 4

-- C = S/2 − A − B, and D = S'/2 − A − B with the second tree's sum
unfoldable pub formula_c : ℕ → ℕ → ℕ → ℕ
formula_c s s2 s3 = s / 2 - formula_a s2 - formula_b s3

abbrev pub formula_d : ℕ → ℕ → ℕ → ℕ
formula_d s' s2 s3 = formula_c s' s2 s3

-- E = all sets of four − A − B − C − D
unfoldable pub formula_e : ℕ → ℕ → ℕ → ℕ → ℕ → ℕ
formula_e n s s' s2 s3 = fours n - formula_a s2 - formula_b s3 - formula_c s s2 s3 - formula_d s' s2 s3
