-- The pair is checked, then the fraction; only then the table is counted.
-- Assumes nothing.
use mathlib.Core.Path.{sym, ◌∙◌}
use lib.ListN.{length}
use lib.Ieee.{of_bits}
use Rattle.pair_check.specs.PairOrder.{MarkedPair}
use Rattle.pair_check.specs.lemmas.PairOutcomes.{work_says, work_told}
use Rattle.weights.proofs.lemmas.WeightedOutcomes.{pair_refused, fraction_refused, fraction_fits, weighed, weight_says}
use Rattle.weights.proofs.distances.weighted_distance.Goals.{In-Ok}
use Rattle.weights.proofs.distances.weighted_distance.Goals as goal

-- ---- what is known there

pair : (c : In-Ok)
    → (let s = c.args in MarkedPair s.first.now s.second.now s.marks.now (length s.work.now))
pair c = (work_says _ _ _ _ _ (sym c.check_work-answer.ensures.0 ∙ c.in-Ok.is)).0

-- ---- the needs

pub returns-in_default : goal.returns-in_default
unfolding of_bits
returns-in_default c =
    let h = work_told _ _ _ _ _ _ _ c.check_work-answer.ensures.0 c.in_default.is c.refusal_of.ensures in
    weight_says _ _ _ _ _ _ _ (pair_refused _ _ _ _ _ _ h.0 h.1)

pub returns-in-Err : goal.returns-in-Err
returns-in-Err c =
    let q = pair (goal.at.returns-in-Err c).In-Ok in
    rw c.refused.ensures (weight_says _ _ _ _ _ _ _ (fraction_refused _ _ _ _ _ q _ c.fraction_of-p.ensures
    _ _ c.in-Err.ensures c.from.ensures))

pub weigh_table-requires : goal.weigh_table-requires
weigh_table-requires c =
    let s = c.args in
    let q = pair (goal.at.weigh_table-requires c).In-Ok in
    (q, fraction_fits s.first.now s.second.now s.marks.now s.work.now s.weight q _ c.fraction_of-p.ensures c.in_default-check_fraction.ensures)

pub returns : goal.returns
returns c =
    weight_says _ _ _ _ _ _ _ (weighed _ _ _ _ _ (pair (goal.at.returns c).In-Ok) _ c.fraction_of-p.ensures
    c.in_default-check_fraction.ensures _ _ c.weigh_table.ensures.0 c.weigh_table.ensures.1)
