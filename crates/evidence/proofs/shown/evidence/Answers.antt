-- Each return is an outcome of the order.
-- Assumes nothing.
use mathlib.Core.Path.{sym, ◌∙◌}
use Rattle.pair_check.specs.PairOrder.{IsPair}
use Rattle.pair_check.specs.lemmas.PairOutcomes.{check_says, pair_told}
use Rattle.evidence.proofs.lemmas.EvidenceFound.{tables_turned_away, labels_turned_away, shown, evidence_told}
use Rattle.evidence.proofs.shown.evidence.Goals.{In-Ok}
use Rattle.evidence.proofs.shown.evidence.Goals as goal

-- ---- what is known

-- the tables are a pair
pair : (c : In-Ok) → IsPair c.args.first.now c.args.second.now
pair c = (check_says _ _ _ (sym c.check_pair-answer.ensures.0 ∙ c.in-Ok.is)).0

-- ---- what is asked

pub returns-in_default : goal.returns-in_default
returns-in_default c =
    let h = pair_told _ _ _ _ _ c.check_pair-answer.ensures.0 c.in_default.is c.refusal_of.ensures in
    evidence_told _ _ _ _ _ _ _ (c.refused.ensures ∙ tables_turned_away _ _ _ _ _ _ _ h.0 h.1)

pub returns-then-one-ne0 : goal.returns-then-one-ne0
returns-then-one-ne0 c =
    evidence_told _ _ _ _ _ _ _ (c.refused-then-one-ne0.ensures
    ∙ labels_turned_away _ _ _ _ _ _ (pair (goal.at.returns-then-one-ne0 c).In-Ok) _ c.witness_of-one.ensures.0 c.if-one-ne0.true)

pub returns : goal.returns
returns c =
    evidence_told _ _ _ _ _ _ _ (shown _ _ _ _ _ _ (pair (goal.at.returns c).In-Ok) _ _ _
    c.witness_of-one.ensures.0 c.witness_of-other.ensures.0 c.if-one-ne0.false c.case_of.ensures)
