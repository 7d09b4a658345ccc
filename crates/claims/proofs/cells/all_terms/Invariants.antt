-- The invariant: `pairs`, `plus` and `minus` are the terms of the rows before row `i`.
-- Assumes nothing.
use Rattle.claims.specs.lemmas.Block.{block_cell}
use Rattle.claims.specs.lemmas.CellSums.{AllTerms}
use Rattle.claims.proofs.cells.all_terms.Given as goal

abbrev pub invariant-loop-i : goal.invariant-loop-i
invariant-loop-i l = AllTerms l.rows l.columns (block_cell l.cells l.columns) l.i l.pairs l.plus l.minus
