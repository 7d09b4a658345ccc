-- 0, and the rest.
-- Assumes nothing.
use Rattle.capi.specs.lemmas.MarkLaws.{wish_strike, wish_restore}
use Rattle.capi.proofs.labels.wish_of.Goals as goal

pub returns-then-mark-eq0 : goal.returns-then-mark-eq0
returns-then-mark-eq0 c = wish_strike _ c.if-mark-eq0.true

pub returns : goal.returns
returns c = wish_restore _ c.if-mark-eq0.false
