-- A shape: a tree given by parents, with n labels at different leaves. Inner nodes may have any number of
-- children, one included, and nothing is said of where label 0 sits.
-- Assumes nothing.
use Rattle.std.specs.Prelude.{Bool, ℕ}
use Rattle.shapes.specs.Ancestors.{anc}
use Rattle.shapes.specs.Directions.{behind}
use Rattle.shapes.specs.Quartets.{parted}
use Rattle.shapes.specs.theorems.Shape.{Shape}

module _ {n : ℕ} (t : Shape n) where
  -- the label x lies beyond edge i
  abbrev pub beyond_in : ℕ → ℕ → Bool
  beyond_in i x = anc t.up i (t.node x)

  -- the label x lies behind the directed edge with the code c
  abbrev pub behind_in : ℕ → ℕ → Bool
  behind_in c x = behind t.up c (t.node x)

  -- some edge has the labels a, b on one side and c, d on the other
  abbrev pub butterfly_in : ℕ → ℕ → ℕ → ℕ → Bool
  butterfly_in a b c d = parted t.up t.edges (t.node a) (t.node b) (t.node c) (t.node d)
