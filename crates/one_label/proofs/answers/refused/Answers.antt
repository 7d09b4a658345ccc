-- The number and zeros.
-- Assumes nothing.
use mathlib.Core.Path.{refl}
use Rattle.one_label.proofs.answers.refused.Goals as goal

pub returns : goal.returns
returns c = refl
