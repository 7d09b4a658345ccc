-- `is_new` tells what `new_size` does, arm by arm.
-- Assumes nothing.
use mathlib.Core.Path.{refl, sym, ◌∙◌}
use borrow.Author.Tests.{eq-eqb, ne_eqb}
use Rattle.splits.specs.lemmas.SplitCells.{new_size}
use Rattle.splits.proofs.cells.is_new.Goals as goal

pub returns-then-size-above : goal.returns-then-size-above
unfolding new_size
returns-then-size-above c = rw (eq-eqb _ _ c.if-size-above.true) refl

pub returns : goal.returns
unfolding new_size
returns c = c.is_split.ensures ∙ sym (rw (ne_eqb _ _ c.if-size-above.false) refl)
