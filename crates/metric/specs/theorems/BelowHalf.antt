-- Below a half the weighted distance keeps no triangle: with k = 127 the way from a butterfly to another is shorter through
-- the star. Computed from the definitions, of three trees with four tips.
-- Assumes nothing.
use Rattle.std.specs.Prelude.{[], ◌∷◌}
use Rattle.tree_check.specs.Table.{Table}
use Rattle.walks.specs.theorems.WalkExamples.{X}

-- 0 and 1 against 2 and 3
abbrev pub With1 : Table
With1 = 4 ∷ 6 ∷ 0 ∷ 0 ∷ 1 ∷ 1 ∷ 3 ∷ 3 ∷ 0 ∷ X ∷ 1 ∷ X ∷ 2 ∷ 3 ∷ []

-- 0 and 2 against 1 and 3
abbrev pub With2 : Table
With2 = 4 ∷ 6 ∷ 0 ∷ 0 ∷ 1 ∷ 1 ∷ 3 ∷ 3 ∷ 0 ∷ X ∷ 2 ∷ X ∷ 1 ∷ 3 ∷ []

-- a star
abbrev pub Star4 : Table
Star4 = 4 ∷ 5 ∷ 0 ∷ 0 ∷ 1 ∷ 1 ∷ 1 ∷ 0 ∷ X ∷ 1 ∷ 2 ∷ 3 ∷ []
