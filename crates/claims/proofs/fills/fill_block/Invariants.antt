-- The invariant: the first `i` rows of the block are filled.
-- Assumes nothing.
use Rattle.claims.specs.lemmas.NodeBlock.{RowsFilled}
use Rattle.claims.proofs.fills.fill_block.Given as goal

abbrev pub invariant-loop-i : goal.invariant-loop-i
invariant-loop-i l = RowsFilled l.work l.width l.fn.n l.rows l.columns l.initial.block 1
    → RowsFilled l.work l.width l.fn.n l.rows l.columns l.block l.i
