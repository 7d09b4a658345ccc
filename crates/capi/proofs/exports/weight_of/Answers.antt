-- Each kind has its weight.
-- Assumes nothing.
use lib.Ieee.{of_bits}
use Rattle.capi.specs.lemmas.WeightLaws.{no_weight, full_weight, part-weight, other_weight}
use Rattle.capi.proofs.exports.weight_of.Goals as goal

pub returns-then-kind-eq0 : goal.returns-then-kind-eq0
returns-then-kind-eq0 c = no_weight _ _ c.if-kind-eq0.true

pub returns-then-kind-eq1 : goal.returns-then-kind-eq1
returns-then-kind-eq1 c = full_weight _ _ c.if-kind-eq1.true

pub returns-then-kind-eq2 : goal.returns-then-kind-eq2
returns-then-kind-eq2 c = part-weight _ _ c.if-kind-eq2.true

pub returns : goal.returns
unfolding of_bits
returns c = other_weight _ _ c.if-kind-eq0.false c.if-kind-eq1.false c.if-kind-eq2.false
