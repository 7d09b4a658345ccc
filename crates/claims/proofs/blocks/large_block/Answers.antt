-- The terms of the cells and the dot products come to the two sums, and nothing goes below 0 on the way.
-- Assumes nothing.
use mathlib.Core.Path.{◌≡◌}
use Prim.Native.Nat.{◌+◌, ◌*◌}
use native.Mathlib.Omega.{arith}
use Rattle.node_pairs.specs.theorems.Cells.{pair_s3}
use Rattle.claims.specs.lemmas.Block.{block_cell}
use Rattle.claims.specs.lemmas.BlockTerms.{pairs_come_to, hooks_come_to}
use Rattle.claims.proofs.blocks.large_block.Goals.{After-struct_known-1}
use Rattle.claims.proofs.blocks.large_block.Goals as goal

-- what is added up for S3, and what is taken off
hooks : (c : After-struct_known-1)
    → pair_s3 c.args.rows c.args.columns
    (block_cell c.args.cells.now c.args.columns)
    + c.all_terms-all.result.minus + 2 * c.rectangle_sums-rectangles.result.terms
    ≡ c.all_terms-all.result.plus + 2 * c.rectangle_sums-rectangles.result.dots
hooks c = hooks_come_to _ _ _ _ _ _ c.all_terms-all.ensures _ _ c.rectangle_sums-rectangles.ensures

pub overflow_mul-result-2 : goal.overflow_mul-result-2
overflow_mul-result-2 c = omega (arith, c.rectangle_sums-rectangles.ensures.terms_le)

pub overflow_sub-result-2 : goal.overflow_sub-result-2
overflow_sub-result-2 c = omega (arith, hooks (goal.at.overflow_sub-result-2 c).After-struct_known-1)

pub returns : goal.returns
returns c =
    (pairs_come_to _ _ _ _ _ _ c.all_terms-all.ensures, omega (arith, hooks (goal.at.returns c).After-struct_known-1))
