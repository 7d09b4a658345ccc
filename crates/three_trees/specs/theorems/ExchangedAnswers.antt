-- Two trees exchanged: what the pair calls answer, with the same marks and as many cells.
-- Assumes nothing.
use Rattle.std.specs.Prelude.{◌≡◌, List, ℕ}
use Rattle.tree_check.specs.Table.{Table}
use Rattle.claims.specs.declared.totals.ClaimSums.{ClaimSums}
use Rattle.claims.specs.ClaimAnswer.{claim_answer}
use Rattle.splits.specs.declared.counts.SplitCounts.{SplitCounts}
use Rattle.splits.specs.SplitAnswer.{split_answer}
use Rattle.quartets.specs.declared.tables.QuartetTable.{QuartetTable}
use Rattle.quartets.specs.QuartetAnswer.{quartet_answer}
use Rattle.weights.specs.declared.weight.Weight.{Weight}
use Rattle.weights.specs.WeightedAnswer.{weighted_answer}

-- C and D exchanged; A, B, E and the distance as they are
abbrev pub other_table : QuartetTable → QuartetTable
other_table r = record { refusal = r.refusal; a = r.a; b = r.b; c = r.d; d = r.c; e = r.e; distance = r.distance }

-- S and S' exchanged; S2 and S3 as they are
abbrev pub other_sums : ClaimSums → ClaimSums
other_sums r = record { refusal = r.refusal; first = r.second; second = r.first; same = r.same; different = r.different }

-- the splits of the two trees exchanged; the common ones and the Robinson-Foulds distance as they are
abbrev pub other_splits : SplitCounts → SplitCounts
other_splits r = record { refusal = r.refusal; first = r.second; second = r.first; common = r.common; distance = r.distance }

-- what four calls answer of two trees and of these in the other order
pub record AnswersExchanged (t u : Table) (marks : List ℕ) (c : ℕ) : Type 0 where
  pub quartet_table : quartet_answer u t marks c ≡ other_table (quartet_answer t u marks c)
  pub claim_sums : claim_answer u t marks c ≡ other_sums (claim_answer t u marks c)
  pub split_counts : split_answer u t marks c ≡ other_splits (split_answer t u marks c)
  pub weighted_distance : (w : Weight) → (weighted_answer t u marks c w).refusal ≡ 0 → weighted_answer u t marks c w ≡ weighted_answer t u marks c w
