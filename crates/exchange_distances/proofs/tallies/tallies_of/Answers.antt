-- The arrays are those of the table, and so are the tallies.
-- Assumes nothing.
use Rattle.exchange_distances.specs.lemmas.PairTallies.{lent_walked, lent_tallied}
use Rattle.exchange_distances.proofs.tallies.tallies_of.Goals as goal

pub tally_pairs-requires : goal.tally_pairs-requires
tally_pairs-requires c =
    (lent_walked _ _ _ c.requires.0 _ _ _ c.arrays_of.ensures, c.requires.1)

pub returns : goal.returns
returns c =
    lent_tallied _ _ _ c.requires.0 _ _ _ c.arrays_of.ensures _ c.tally_pairs.ensures
