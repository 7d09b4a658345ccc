-- Some column passes exactly if the count is not 0.
-- Assumes nothing.
use Rattle.std.proofs.Common.{rules}
use Rattle.splits.specs.lemmas.SplitCells.{apart_row}
use Rattle.splits.proofs.lemmas.SplitLoops.{some_counted}
use Rattle.splits.proofs.cells.apart_row.Goals as goal

pub returns : goal.returns
unfolding apart_row
returns c = some_counted _ _ _ (c.count_of.ensures _ (λ j b l k. search rules))
