-- The quartet table of a pair call, and demand 3 in one record (docs/SPECIFICATION.md, 'Demand 3: the quartet table').
-- Assumes nothing.
use Rattle.std.specs.Prelude.{◌≡◌, ◌≢◌, ◌↔◌, List, ℕ, ◌+◌, ◌*◌, ◌-◌, ◌/◌, ◌%◌, ◌≤◌}
use Rattle.sums.specs.Fours.{fours}
use Rattle.tree_check.specs.Table.{Table, tips}
use Rattle.tree_check.specs.Refusals.{refusal, if_accepted}
use Rattle.counting.specs.Labels.{Labels}
use Rattle.counting.specs.Kept.{kept}
use Rattle.counting.specs.ClaimSums.{S, S2, S3}
use Rattle.counting.specs.declared.Case.TheVariants.{A, B, C, D, E}
use Rattle.counting.specs.Cases.{quartets, distance}
use Rattle.counting.specs.QuartetTable.{formula_a, formula_b, formula_c, formula_d, formula_e}
use Rattle.counting.specs.SplitCounts.{HaveSameSplits}
use Rattle.pair_check.specs.PairOrder.{MarkedPair, pair_order}
use Rattle.quartets.specs.declared.tables.QuartetTable.{QuartetTable}

-- ---- the definition that the promise cites

-- how many sets of four of these labels the two trees put in each case, and the distance B + C + D
abbrev pub cases_over : Labels → Table → Table → QuartetTable
cases_over l t u = record {
  refusal = 0;
  a = quartets l t u A;
  b = quartets l t u B;
  c = quartets l t u C;
  d = quartets l t u D;
  e = quartets l t u E;
  distance = distance l t u;
}

-- the number of a refused pair, with zeros
abbrev pub refused_table : ℕ → QuartetTable
refused_table number = record { refusal = number; a = 0; b = 0; c = 0; d = 0; e = 0; distance = 0 }

-- the cases of the kept labels
unfoldable pub quartet_answer : Table → Table → List ℕ → ℕ → QuartetTable
quartet_answer t u marks cells =
    let number = refusal (pair_order t u marks cells) in
    if_accepted number (cases_over (kept marks (tips t)) t u) (refused_table number)

-- ---- demand 3

-- what demand 3 says of the quartet table r of two trees that are accepted, over the labels l that are counted
pub record CountedRight (l : Labels) (t u : Table) (r : QuartetTable) : Type 0 where
  -- the table is formed from the four claim sums and the number of labels by the five formulas
  pub formulas : (r.a ≡ formula_a (S2 l t u))
      × (r.b ≡ formula_b (S3 l t u))
      × (r.c ≡ formula_c (S l t) (S2 l t u) (S3 l t u))
      × (r.d ≡ formula_d (S l u) (S2 l t u) (S3 l t u))
      × (r.e ≡ formula_e l.number (S l t) (S l u) (S2 l t u) (S3 l t u))
  -- each of A to E is the number of sets of four labels whose two topologies put them in that case
  pub counts : (r.a ≡ quartets l t u A)
      × (r.b ≡ quartets l t u B)
      × (r.c ≡ quartets l t u C)
      × (r.d ≡ quartets l t u D)
      × (r.e ≡ quartets l t u E)
  -- no division leaves a remainder: the halves, the quarter, and all sets of four by 24
  pub exact : (S l t % 2 ≡ 0) × (S l u % 2 ≡ 0) × (S2 l t u % 2 ≡ 0) × (S3 l t u % 4 ≡ 0)
      × (l.number * (l.number - 1) * (l.number - 2) * (l.number - 3) % 24 ≡ 0)
  -- nothing wraps: the sums and the counts are at most these, and no subtraction is cut off at 0
  pub fits : (S l t ≤ 349585280) × (S l u ≤ 349585280) × (S2 l t u ≤ 349585280) × (S3 l t u ≤ 699170560)
      × (r.a ≤ 174792640) × (r.b ≤ 174792640) × (r.c ≤ 174792640) × (r.d ≤ 174792640) × (r.e ≤ 174792640)
      × (r.a + r.b ≤ S l t / 2) × (r.a + r.b ≤ S l u / 2) × (r.a + r.b + r.c + r.d ≤ fours l.number)
  -- the five add up to all sets of four labels
  pub total : r.a + r.b + r.c + r.d + r.e ≡ fours l.number
  -- the distance B + C + D is 0 exactly if the two trees have the same splits among the labels
  pub distance : r.distance ≡ r.b + r.c + r.d
  pub zero_distance : (r.distance ≡ 0) ↔ HaveSameSplits l t u

-- demand 3 of a quartet table r, for any tables, any marks and any number of cells
pub record DemandThree (t u : Table) (marks : List ℕ) (cells : ℕ) (r : QuartetTable) : Type 0 where
  -- one refusal number in a fixed order, 0 exactly if both tables keep the rules, on the same tips, with marks and cells
  pub number : r.refusal ≡ refusal (pair_order t u marks cells)
  pub accepted : (r.refusal ≡ 0) ↔ MarkedPair t u marks cells
  -- a refusal has zero counts
  pub refused : r.refusal ≢ 0 → (r.a ≡ 0) × (r.b ≡ 0) × (r.c ≡ 0) × (r.d ≡ 0) × (r.e ≡ 0) × (r.distance ≡ 0)
  -- an accepted pair is counted right, over the kept labels
  pub counted : MarkedPair t u marks cells → CountedRight (kept marks (tips t)) t u r
