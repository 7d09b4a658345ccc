-- The quartet theorem: what the five formulas give, for two tree tables on the same tips and any labels of theirs.
-- Assumes nothing.
use Rattle.std.specs.Prelude.{◌≡◌, ◌↔◌, ℕ, ◌+◌, ◌*◌, ◌-◌, ◌/◌, ◌%◌, ◌≤◌}
use Rattle.sums.specs.Fours.{fours}
use Rattle.tree_check.specs.Table.{Table}
use Rattle.counting.specs.Labels.{Labels}
use Rattle.counting.specs.ClaimSums.{S, S2, S3}
use Rattle.counting.specs.declared.Case.{Case}
use Rattle.counting.specs.declared.Case.TheVariants.{A, B, C, D, E}
use Rattle.counting.specs.Cases.{quartets, distance}
use Rattle.counting.specs.QuartetTable.{formula_a, formula_b, formula_c, formula_d, formula_e}
use Rattle.counting.specs.SplitCounts.{HaveSameSplits}

-- the distance B + C + D
unfoldable pub formula_distance : ℕ → ℕ → ℕ → ℕ → ℕ
formula_distance s s' s2 s3 = formula_b s3 + formula_c s s2 s3 + formula_d s' s2 s3

abbrev pub table_a : Labels → Table → Table → ℕ
table_a l t u = formula_a (S2 l t u)

abbrev pub table_b : Labels → Table → Table → ℕ
table_b l t u = formula_b (S3 l t u)

abbrev pub table_c : Labels → Table → Table → ℕ
table_c l t u = formula_c (S l t) (S2 l t u) (S3 l t u)

abbrev pub table_d : Labels → Table → Table → ℕ
table_d l t u = formula_d (S l u) (S2 l t u) (S3 l t u)

abbrev pub table_e : Labels → Table → Table → ℕ
table_e l t u = formula_e l.number (S l t) (S l u) (S2 l t u) (S3 l t u)

abbrev pub table_distance : Labels → Table → Table → ℕ
table_distance l t u = formula_distance (S l t) (S l u) (S2 l t u) (S3 l t u)

pub record QuartetTheorem (l : Labels) (t u : Table) : Type 0 where
  -- each of A to E is the number of sets of four in that case
  pub A_counts : table_a l t u ≡ quartets l t u A
  pub B_counts : table_b l t u ≡ quartets l t u B
  pub C_counts : table_c l t u ≡ quartets l t u C
  pub D_counts : table_d l t u ≡ quartets l t u D
  pub E_counts : table_e l t u ≡ quartets l t u E
  -- no division leaves a remainder
  pub S_even : S l t % 2 ≡ 0
  pub S'_even : S l u % 2 ≡ 0
  pub S2_even : S2 l t u % 2 ≡ 0
  pub S3_fourfold : S3 l t u % 4 ≡ 0
  pub all_exact : 24 * fours l.number ≡ l.number * (l.number - 1) * (l.number - 2) * (l.number - 3)
  -- no subtraction is cut off at 0
  pub C_fits : table_a l t u + table_b l t u ≤ S l t / 2
  pub D_fits : table_a l t u + table_b l t u ≤ S l u / 2
  pub E_fits : table_a l t u + table_b l t u + table_c l t u + table_d l t u ≤ fours l.number
  -- nothing wraps
  pub S_most : S l t ≤ 349585280
  pub S'_most : S l u ≤ 349585280
  pub S2_most : S2 l t u ≤ 349585280
  pub S3_most : S3 l t u ≤ 699170560
  pub all_most : fours l.number ≤ 174792640
  pub count_most : (k : Case) → quartets l t u k ≤ 174792640
  -- the five add up to all sets of four
  pub total : table_a l t u + table_b l t u + table_c l t u + table_d l t u + table_e l t u ≡ fours l.number
  -- the distance is 0 exactly if the two trees have the same splits
  pub distance_counts : table_distance l t u ≡ distance l t u
  pub distance_zero : (table_distance l t u ≡ 0) ↔ HaveSameSplits l t u
