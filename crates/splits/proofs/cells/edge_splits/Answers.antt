-- What is counted is whether each edge is the first with its label sets.
-- Assumes nothing.
use Rattle.std.proofs.Common.{rules}
use Rattle.splits.specs.lemmas.SplitCells.{edge_splits}
use Rattle.splits.proofs.cells.edge_splits.Goals as goal

pub returns : goal.returns
unfolding edge_splits
returns c = c.count_of.ensures _ (λ i b l k. search rules)
