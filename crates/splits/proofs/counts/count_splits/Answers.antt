-- The three counts, and the distance from them.
-- Assumes nothing.
use Rattle.splits.proofs.lemmas.SplitsCounted.{counted_is}
use Rattle.splits.proofs.counts.count_splits.Goals as goal

pub returns : goal.returns
returns c =
    counted_is _ _ _ _ _ _ _ c.edge_splits-first.ensures c.edge_splits-second.ensures
    c.common_rows-common.ensures
