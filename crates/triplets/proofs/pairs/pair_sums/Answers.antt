-- A second tree of few nodes has short lists, any other the long ones.
-- Assumes nothing.
use Rattle.triplets.proofs.lemmas.ListedRows.{column_room}
use Rattle.triplets.proofs.pairs.pair_sums.Goals as goal

pub listed_sums-requires : goal.listed_sums-requires
listed_sums-requires c =
    (c.requires, column_room _ _ _ _ _ c.requires c.if-second_parents-le-FEW.true c.if-second_parents-le-FEW.true)

pub listed_sums-requires-2 : goal.listed_sums-requires-2
listed_sums-requires-2 c =
    (c.requires, column_room _ _ _ _ _ c.requires c.requires.second.few c.requires.second.few)
