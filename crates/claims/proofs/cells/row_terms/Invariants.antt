-- The invariant: `pairs`, `plus` and `minus` are the terms of the cells before column `j`, and `k` the place of the
-- cell in that column.
-- Assumes nothing.
use mathlib.Core.Path.{◌≡◌}
use Prim.Native.Nat.{◌+◌, ◌*◌}
use Rattle.claims.specs.lemmas.Block.{block_cell}
use Rattle.claims.specs.lemmas.CellSums.{RowTerms}
use Rattle.claims.proofs.cells.row_terms.Given as goal

abbrev pub invariant-loop-j : goal.invariant-loop-j
invariant-loop-j l = (l.k ≡ l.i * l.columns + l.j) × RowTerms l.rows l.columns (block_cell l.cells l.columns) l.i l.j l.pairs l.plus l.minus
