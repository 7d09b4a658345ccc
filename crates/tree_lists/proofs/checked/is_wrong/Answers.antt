-- The number of the tree, then its n.
-- Assumes nothing.
use mathlib.Core.Path.{sym, ◌∙◌}
use Rattle.tree_check.specs.theorems.CheckLaws.{checked_accepted, checked-refusal}
use Rattle.tree_lists.proofs.lemmas.Starts.{refused_wrong, tips_wrong}
use Rattle.tree_lists.proofs.checked.is_wrong.Goals as goal

pub returns-in_default : goal.returns-in_default
returns-in_default c = let r = checked-refusal _ _ (sym c.check-answer.ensures.0 ∙ c.in_default.is) in refused_wrong _ _ _ r.0 r.1

pub returns : goal.returns
returns c = let g = checked_accepted _ _ (sym c.check-answer.ensures.0 ∙ c.in-Ok.is) in tips_wrong _ g.0 _ _ g.1
