-- The five counts, as the code forms them from its sums.
-- Assumes nothing.
use Rattle.std.specs.Prelude.{ℕ, ◌+◌, ◌-◌, ◌/◌, ◌≤◌}
use Rattle.sums.specs.theorems.ThreesLaws.{threes}
use Rattle.triplets.specs.declared.tables.TripletTable.{TripletTable}

-- A is half of what is summed over pairs of edges that agree, B what is summed over those that differ; half of a tree's sum
-- over its edges is what it resolves
unfoldable pub formed_triplets : ℕ → ℕ → ℕ → ℕ → ℕ → TripletTable
formed_triplets n first second alike apart =
    let a = alike / 2 in
    let b = apart in
    let c = first / 2 - a - b in
    let d = second / 2 - a - b in
    record {
      refusal = 0;
      a = a;
      b = b;
      c = c;
      d = d;
      e = threes (n - 1) - a - b - c - d;
      distance = b + c + d;
    }

-- no subtraction goes below 0, and nothing wraps
pub record TripletsFit (n first second alike apart : ℕ) : Type 0 where
  pub tips_few : n ≤ 256
  pub first_most : first ≤ 5462270
  pub second_most : second ≤ 5462270
  pub C_fits : alike / 2 + apart ≤ first / 2
  pub D_fits : alike / 2 + apart ≤ second / 2
  pub E_fits : alike / 2 + apart + (first / 2 - alike / 2 - apart) + (second / 2 - alike / 2 - apart) ≤ threes (n - 1)
