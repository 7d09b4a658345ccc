-- The five formulas, as the code forms them, give the quartet table of a pair.
-- Assumes nothing.
use Rattle.std.specs.Prelude.{ℕ, ◌+◌, ◌-◌, ◌/◌, ◌≤◌}
use Rattle.table_words.specs.Sizes.{tips_most}
use Rattle.sums.specs.Fours.{fours}
use Rattle.counting.specs.QuartetTable.{formula_a, formula_b, formula_c, formula_d, formula_e}
use Rattle.counting.specs.theorems.QuartetTheorem.{formula_distance}
use Rattle.quartets.specs.declared.tables.QuartetTable.{QuartetTable}

unfoldable pub formed : ℕ → ℕ → ℕ → ℕ → ℕ → QuartetTable
formed n s s' s2 s3 = record {
  refusal = 0;
  a = formula_a s2;
  b = formula_b s3;
  c = formula_c s s2 s3;
  d = formula_d s' s2 s3;
  e = formula_e n s s' s2 s3;
  distance = formula_distance s s' s2 s3;
}

-- no subtraction goes below 0, and nothing wraps
pub record TableFits (n s s' s2 s3 : ℕ) : Type 0 where
  pub tips_few : n ≤ tips_most
  pub S_most : s ≤ 349585280
  pub S'_most : s' ≤ 349585280
  pub C_fits : s2 / 2 + s3 / 4 ≤ s / 2
  pub D_fits : s2 / 2 + s3 / 4 ≤ s' / 2
  pub E_fits : s2 / 2 + s3 / 4 + (s / 2 - s2 / 2 - s3 / 4) + (s' / 2 - s2 / 2 - s3 / 4) ≤ fours n
