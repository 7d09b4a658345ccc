-- What is known where the search needs a hint.
-- Assumes nothing.
use native.Mathlib.Omega.{arith}
use Rattle.one_label.proofs.lemmas.HeldCounts.{copied_all, marks-exchanged}
use Rattle.one_label.proofs.held.exchanged_marks.Goals as goal

pub returns : goal.returns
returns c = marks-exchanged _ _ _ (omega (arith, c.requires.0, c.requires.1)) (copied_all _ _ c.copy_from_slice.ensures.after c.requires.0)
