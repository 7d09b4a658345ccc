-- The invariant: the pairs of the labels before `y` are counted.
-- Assumes nothing.
use mathlib.Core.Path.{◌≡◌}
use lib.ListN.{length}
use Rattle.table_words.specs.Sizes.{node_room}
use Rattle.exchange_distances.specs.lemmas.PairTallies.{Tallying}
use Rattle.exchange_distances.proofs.pairs.tally_pairs.Given as goal

abbrev pub invariant-loop-y : goal.invariant-loop-y
invariant-loop-y l = (length l.toward ≡ node_room) × (length l.costs ≡ node_room) × Tallying l.n l.parents l.labelled l.size l.square l.y l.tallies
