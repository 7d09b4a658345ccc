-- The number of the pair.
-- Assumes nothing.
use mathlib.Core.Path.{◌∙◌}
use Rattle.tree_check.specs.theorems.NumberLaws.{number_is}
use Rattle.tree_pairs.proofs.crosses.crossings.Goals as goal

pub returns : goal.returns
returns c =
    let x = c.cross_pair.ensures in
    (number_is _ _ c.refusal_of.ensures ∙ x.1.number_told, x.2)
