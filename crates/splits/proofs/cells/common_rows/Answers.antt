-- What is counted is whether each row is a split of both trees, the first with its label sets.
-- Assumes nothing.
use Rattle.std.proofs.Common.{rules}
use Rattle.splits.specs.lemmas.SplitCells.{common_rows}
use Rattle.splits.proofs.cells.common_rows.Goals as goal

pub returns : goal.returns
unfolding common_rows
returns c = c.count_of.ensures _ (λ i b l k. search rules)
