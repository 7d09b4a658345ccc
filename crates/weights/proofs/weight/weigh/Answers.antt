-- The sum and the product are exact.
-- Assumes nothing.
use mathlib.Core.Path.{refl}
use Rattle.weights.proofs.theorems.Fractions.{numerator_iff}
use Rattle.weights.proofs.lemmas.ExactProducts.{is_float, weigh_fraction}
use Rattle.weights.proofs.weight.weigh.Goals as goal

pub int_to_float-result : goal.int_to_float-result
int_to_float-result c = is_float _ c.requires.0

pub int_to_float-result-2 : goal.int_to_float-result-2
int_to_float-result-2 c = is_float _ c.requires.1

pub returns : goal.returns
returns c =
    weigh_fraction _ _ _ c.requires.0 c.requires.1 _ c.requires.2 ((numerator_iff _ _ c.requires.2).0 refl)
