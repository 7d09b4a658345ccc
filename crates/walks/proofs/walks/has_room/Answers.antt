-- A short walk is told.
-- Assumes nothing.
use Rattle.std.proofs.Common.{[], refl, ◌∙◌, le-ltb, lt-ltb}
use Rattle.tree_check.specs.theorems.RefusalLaws.{refusal_none, refusal_here, refusal_next}
use Rattle.tree_check.specs.theorems.NumberLaws.{answer_ok, answer_err}
use Rattle.walks.proofs.walks.has_room.Goals as goal

pub returns-then-cells-n : goal.returns-then-cells-n
returns-then-cells-n c = answer_err _ _ _ (refusal_here 12 _ [] (lt-ltb _ _ c.if-cells-n.true))

pub returns : goal.returns
returns c = answer_ok _ _ _ (refusal_next 12 _ [] (le-ltb _ _ c.if-cells-n.false) ∙ refusal_none) refl
