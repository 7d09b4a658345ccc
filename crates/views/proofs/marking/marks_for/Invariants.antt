-- The invariant: the labels before `x` have their marks, and the others 0.
-- Assumes nothing.
use mathlib.Core.Path.{◌≡◌}
use lib.ListN.{replicate}
use Rattle.sums.specs.Bits.{bit}
use Rattle.sums.specs.Lists.{in_front}
use Rattle.table_words.specs.Sizes.{tips_most}
use Rattle.levels.specs.Levels.{is_visible}
use Rattle.views.proofs.marking.marks_for.Given as goal

abbrev pub invariant-loop-x : goal.invariant-loop-x
invariant-loop-x l = l.marks ≡ in_front l.x (λ y. bit (is_visible l.levels l.viewer y)) (replicate tips_most 0)
