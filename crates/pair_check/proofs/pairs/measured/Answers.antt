-- Each return is an outcome of the measure.
-- Assumes nothing.
use native.Mathlib.Omega.{arith}
use Rattle.pair_check.specs.lemmas.PairOutcomes.{measured_pair_lem, measured_nine}
use Rattle.pair_check.proofs.pairs.measured.Goals as goal

pub overflow_mul-pair : goal.overflow_mul-pair
overflow_mul-pair c = omega (arith, c.requires)

pub returns-then-cells-pair : goal.returns-then-cells-pair
returns-then-cells-pair c = measured_nine _ _ c.if-cells-pair.true

pub returns : goal.returns
returns c = measured_pair_lem _ _ c.if-cells-pair.false
