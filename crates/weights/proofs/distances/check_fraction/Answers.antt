-- Refused exactly if there is no numerator.
-- Assumes nothing.
use mathlib.Core.Path.{sym, ◌∙◌}
use Rattle.weights.proofs.lemmas.WeightedOutcomes.{no_fraction, a_fraction}
use Rattle.weights.proofs.distances.check_fraction.Goals as goal

pub returns-then-numerator_of-eq257 : goal.returns-then-numerator_of-eq257
returns-then-numerator_of-eq257 c = no_fraction _ (sym c.numerator_of.ensures ∙ c.if-numerator_of-eq257.true)

pub returns : goal.returns
returns c = a_fraction _ (λ e. c.if-numerator_of-eq257.false (c.numerator_of.ensures ∙ e))
