-- No pairs of no tips; otherwise the definition.
-- Assumes nothing.
use mathlib.Core.Path.{◌∙◌, ap, sym}
use native.Mathlib.Omega.{arith}
use Rattle.shapes.specs.Claims.{choose2}
use Rattle.claims.specs.lemmas.SizeTerms.{pairs_none, pairs_some, pairs_fit}
use Rattle.claims.proofs.node_sums.pairs_of.Goals as goal

pub returns-then-s-eq0 : goal.returns-then-s-eq0
returns-then-s-eq0 c = (pairs_none ∙ ap choose2 (sym c.if-s-eq0.true), omega arith)

pub overflow_mul-result : goal.overflow_mul-result
overflow_mul-result c = omega (arith, pairs_fit _ c.requires)

pub returns : goal.returns
returns c = pairs_some _ c.requires
