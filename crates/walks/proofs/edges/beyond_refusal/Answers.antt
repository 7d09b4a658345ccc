-- The number of the place.
-- Assumes nothing.
use Rattle.walks.specs.lemmas.WalkOutcomes.{place_number}
use Rattle.walks.proofs.edges.beyond_refusal.Goals as goal

pub returns : goal.returns
returns c = place_number _ _ _ _ c.part_beyond-part.ensures
