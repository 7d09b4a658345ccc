-- The same partner, or another.
-- Assumes nothing.
use borrow.Author.Tests.{eq-eqb, ne_eqb}
use Rattle.evidence.specs.lemmas.EvidenceFound.{two_butterflies}
use Rattle.evidence.proofs.shown.butterflies.Goals as goal

pub returns-then-p-q : goal.returns-then-p-q
unfolding two_butterflies
returns-then-p-q c = rw (eq-eqb _ _ c.if-p-q.true, two_butterflies)

pub returns : goal.returns
unfolding two_butterflies
returns c = rw (ne_eqb _ _ c.if-p-q.false, two_butterflies)
