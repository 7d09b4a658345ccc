-- The answer of `claim_sums`: the published sums of two tables, or the number of a refused pair.
-- Assumes nothing.
use Rattle.std.specs.Prelude.{List, ℕ}
use Rattle.tree_check.specs.Table.{Table, tips}
use Rattle.tree_check.specs.Refusals.{refusal, if_accepted}
use Rattle.counting.specs.Labels.{Labels}
use Rattle.counting.specs.Kept.{kept}
use Rattle.counting.specs.ClaimSums.{S, S2, S3}
use Rattle.pair_check.specs.PairOrder.{pair_order}
use Rattle.claims.specs.declared.totals.ClaimSums.{ClaimSums}

-- the published sums S, S', S2 and S3 over labels
abbrev pub sums_over : Labels → Table → Table → ClaimSums
sums_over l t u = record {
  refusal = 0;
  first = S l t;
  second = S l u;
  same = S2 l t u;
  different = S3 l t u;
}

-- the number of a refused pair, with zeros
abbrev pub refused_sums : ℕ → ClaimSums
refused_sums number = record { refusal = number; first = 0; second = 0; same = 0; different = 0 }

-- the sums over the kept labels
unfoldable pub claim_answer : Table → Table → List ℕ → ℕ → ClaimSums
claim_answer t u marks cells =
    let number = refusal (pair_order t u marks cells) in
    if_accepted number (sums_over (kept marks (tips t)) t u) (refused_sums number)
