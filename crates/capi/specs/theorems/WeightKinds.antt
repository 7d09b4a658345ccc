-- A kind of weight that there is not is refused, as a fraction that is no k/256.
-- Assumes nothing.
use Rattle.std.specs.Prelude.{◌≡◌, ℕ, suc, Float}
use Rattle.tree_check.specs.Refusals.{refusal}
use Rattle.weights.specs.Weights.{p_of}
use Rattle.weights.specs.WeightedAnswer.{fraction_order}
use Rattle.weights.proofs.theorems.Fractions.{two_is_none}
use Rattle.weights.proofs.lemmas.WeightedOutcomes.{told_30}
use Rattle.capi.specs.PlainAnswers.{weight_of}

pub other_kinds : (kind : ℕ) (x : Float) → refusal (fraction_order (p_of (weight_of (suc (suc (suc kind))) x))) ≡ 30
unfolding weight_of
other_kinds kind x = told_30 _ two_is_none
