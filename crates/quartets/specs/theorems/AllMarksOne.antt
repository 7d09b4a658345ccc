-- With all marks 1 the calls on a pair answer the figures of all labels, and the reference pairs as printed
-- (docs/SPECIFICATION.md, 'Kept labels', 'The figures K1 to K9').
-- Assumes nothing.
use Rattle.std.specs.Prelude.{◌≡◌, ℕ}
use mathlib.Core.List.{List, [], ◌∷◌}
use Rattle.tree_check.specs.Table.{Table, tips}
use Rattle.marks.proofs.theorems.Ones.{ones}
use Rattle.counting.specs.Labels.{all}
use Rattle.tree_pairs.specs.Crossings.{after_crossings, after_all}
use Rattle.splits.specs.SplitAnswer.{splits_among, split_answer}
use Rattle.triplets.specs.TripletAnswer.{triplet_answer}
use Rattle.claims.specs.ClaimAnswer.{sums_over, claim_answer}
use Rattle.quartets.specs.QuartetAnswer.{cases_over, quartet_answer}

-- what the calls on a pair leave and answer, given a mark of 1 for each label
pub record AllMarksOne (t u : Table) (cells : ℕ) : Type 0 where
  -- the cells are those that a call without marks leaves
  pub crossings : (work : List ℕ) → after_crossings t u (ones (tips t)) work ≡ after_all t u work
  -- the figures are those over all labels, with the refusal 0
  pub claims : claim_answer t u (ones (tips t)) cells ≡ sums_over (all (tips t)) t u
  pub cases : quartet_answer t u (ones (tips t)) cells ≡ cases_over (all (tips t)) t u
  pub splits : split_answer t u (ones (tips t)) cells ≡ splits_among (all (tips t)) t u

-- the numbers of the four calls, then what they answer in the order of the reference table; the triplet table takes no marks
unfoldable pub answers : Table → Table → ℕ → List ℕ
answers t u cells =
    let marks = ones (tips t) in
    let sums = claim_answer t u marks cells in
    let cases = quartet_answer t u marks cells in
    let counts = split_answer t u marks cells in
    let threes = triplet_answer t u cells in
    sums.refusal ∷ cases.refusal ∷ counts.refusal ∷ threes.refusal
    ∷ sums.first ∷ sums.second ∷ sums.same ∷ sums.different
    ∷ cases.a ∷ cases.b ∷ cases.c ∷ cases.d ∷ cases.e ∷ cases.distance
    ∷ counts.first ∷ counts.second ∷ counts.common ∷ counts.distance
    ∷ threes.a ∷ threes.b ∷ threes.c ∷ threes.d ∷ threes.e ∷ []
