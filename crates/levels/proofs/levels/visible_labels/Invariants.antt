-- The invariant: `total` counts the visible labels before `x`.
-- Assumes nothing.
use mathlib.Core.Path.{◌≡◌}
use Rattle.sums.specs.Counts.{count}
use Rattle.levels.specs.Levels.{is_visible}
use Rattle.levels.proofs.levels.visible_labels.Given as goal

abbrev pub invariant-loop-x : goal.invariant-loop-x
invariant-loop-x l = l.total ≡ count l.x (is_visible l.levels l.viewer)
