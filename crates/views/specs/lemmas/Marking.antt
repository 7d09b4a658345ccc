-- The marks that levels are for a viewer: the labels that they keep are the visible ones.
-- Assumes nothing.
use Rattle.std.specs.Prelude.{List, ℕ}
use Rattle.sums.specs.Bits.{bit}
use Rattle.sums.specs.Lists.{in_order}
use Rattle.levels.specs.Levels.{is_visible}
use Rattle.views.specs.View.{visible}

-- a mark of 1 for each visible label
abbrev pub marks_of : List ℕ → ℕ → ℕ → List ℕ
marks_of levels viewer n = in_order n (λ x. bit (is_visible levels viewer x))
