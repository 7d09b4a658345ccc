-- Without an edge the centre is told, else the edge.
-- Assumes nothing.
use mathlib.Core.Path.{◌∙◌}
use native.Mathlib.Nat.{mod-eq_of_lt}
use Rattle.trees.specs.lemmas.Seen.{at_none, at_edge}
use Rattle.trees.proofs.witness.witness_at.Goals as goal

pub returns-then-i-eq0 : goal.returns-then-i-eq0
returns-then-i-eq0 c = at_none _ _ _ c.if-i-eq0.true c.centre_node.ensures

pub returns : goal.returns
returns c = at_edge _ _ _ c.if-i-eq0.false (c.as_word.ensures ∙ mod-eq_of_lt c.requires.1)
