-- Fewer than three codes make no claim; otherwise the sizes are written and their terms added up.
-- Assumes nothing.
use mathlib.Core.Path.{sym}
use native.Mathlib.Omega.{arith}
use Rattle.claims.specs.lemmas.SumsByNode.{sizes_few}
use Rattle.claims.specs.lemmas.TreeSizes.{sizes_room, written_few, written-sum}
use Rattle.claims.proofs.node_sums.node_sum.Goals as goal

pub returns-then-edges-lt3 : goal.returns-then-edges-lt3
returns-then-edges-lt3 c = sym (sizes_few _ _ (omega (arith, c.if-edges-lt3.true)))

pub fill_sizes-requires : goal.fill_sizes-requires
fill_sizes-requires c =
    sizes_room _ _ _ _ _ c.requires (omega (arith, c.if-edges-lt3.false))

pub node_term-requires : goal.node_term-requires
node_term-requires c =
    written_few _ _ _ c.args.edges.now _ _ c.fill_sizes.ensures c.requires (omega (arith, c.if-edges-lt3.false))

pub returns : goal.returns
returns c =
    written-sum _ _ _ c.args.edges.now _ _ c.fill_sizes.ensures _ c.node_term.ensures
