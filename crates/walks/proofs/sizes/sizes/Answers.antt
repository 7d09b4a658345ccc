-- Marks added up the tree count the labels beyond each node.
-- Assumes nothing.
use Rattle.std.proofs.Common.{arith}
use Rattle.walks.specs.lemmas.TreeArrays.{few_nodes}
use Rattle.walks.specs.lemmas.Positions.{sizes_added}
use Rattle.walks.proofs.sizes.sizes.Goals as goal

pub mark_tips-requires : goal.mark_tips-requires
mark_tips-requires c =
    (omega (arith, few_nodes _ _ _ c.requires.0, c.requires.0.same), c.requires.1)

pub returns : goal.returns
returns c =
    sizes_added _ _ _ c.requires.0 _ c.mark_tips.ensures _ c.add_up.ensures
