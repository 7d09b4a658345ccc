-- A label past the levels is hidden, and so is one whose level is above the viewer's.
-- Assumes nothing.
use native.Mathlib.Omega.{arith}
use Rattle.levels.specs.lemmas.LevelOutcomes.{visible_past, visible_here}
use Rattle.levels.proofs.levels.is_visible.Goals as goal

pub returns-then-levels-x : goal.returns-then-levels-x
returns-then-levels-x c = visible_past _ _ _ c.if-levels-x.true

pub returns : goal.returns
returns c = visible_here _ _ _ _ c.cell_word.ensures.0 (omega (arith, c.if-levels-x.false))
