-- Fewer than two add nothing; the rest is the comparison.
-- Assumes nothing.
use Rattle.kept_triplets.specs.lemmas.Edges.{adds_none, adds-some}
use Rattle.kept_triplets.proofs.edges.adds.Goals as goal

pub returns-then-s-lt2 : goal.returns-then-s-lt2
returns-then-s-lt2 c = adds_none _ _ c.if-s-lt2.true

pub returns : goal.returns
returns c = adds-some _ _ c.if-s-lt2.false
