-- The number of the answer is the tree check's.
-- Assumes nothing.
use mathlib.Core.Path.{◌∙◌}
use Rattle.tree_check.specs.theorems.CheckLaws.{number_told}
use Rattle.capi.proofs.exports.leskwyn_check.Goals as goal

pub returns : goal.returns
returns c = number_told _ _ c.refusal_of.ensures ∙ c.check.ensures.1.number_told
