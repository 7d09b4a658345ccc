-- The invariant: the labels before `y` are in place.
-- Assumes nothing.
use Rattle.kept_triplets.specs.lemmas.Filling.{PlacesListed}
use Rattle.kept_triplets.proofs.places.fill_places.Given as goal

abbrev pub invariant-loop-y : goal.invariant-loop-y
invariant-loop-y l = PlacesListed l.y l.marks l.first_nodes l.second_nodes l.first_begin l.second_begin l.at
