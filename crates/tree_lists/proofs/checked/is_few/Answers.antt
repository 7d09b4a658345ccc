-- Two comparisons.
-- Assumes nothing.
use native.Mathlib.Omega.{arith}
use Rattle.tree_lists.proofs.lemmas.Starts.{too_few, few_enough}
use Rattle.tree_lists.proofs.checked.is_few.Goals as goal

pub returns-then-is_too_few : goal.returns-then-is_too_few
returns-then-is_too_few c = too_few _ c.if-is_too_few.true

pub returns : goal.returns
returns c = few_enough c.args.k (omega (arith, c.if-is_too_few.false))
