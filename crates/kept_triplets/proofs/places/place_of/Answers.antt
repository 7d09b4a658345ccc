-- Kept or struck.
-- Assumes nothing.
use mathlib.Core.Path.{sym}
use Rattle.kept_triplets.specs.lemmas.Filling.{place_kept, place_struck}
use Rattle.kept_triplets.proofs.places.place_of.Goals as goal

pub returns-then-keeps : goal.returns-then-keeps
returns-then-keeps c = sym (place_kept _ _ c.if-keeps.true)

pub returns : goal.returns
returns c = sym (place_struck _ _ c.if-keeps.false)
