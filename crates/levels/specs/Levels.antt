-- The levels of labels: which of them a viewer sees, and the rule that the levels of a call are held to
-- (docs/SPECIFICATION.md, 'Levels').
-- Assumes nothing.
use Rattle.std.specs.Prelude.{Bool, not, ◌&&◌, List, [], ◌∷◌, ℕ, eqb, ltb, leb, length}
use Rattle.sums.specs.Counts.{count}
use Rattle.sums.specs.Tests.{some}
use Rattle.tree_check.specs.Table.{word}
use Rattle.tree_check.specs.Refusals.{Rule, refusal, if_accepted}
use Rattle.levels.specs.declared.levels.CheckedLevels.{CheckedLevels}

-- the highest level
abbrev pub level_most : ℕ
level_most = 3

-- the label x is visible: it has a level, and that is not above the viewer's
unfoldable pub is_visible : List ℕ → ℕ → ℕ → Bool
is_visible levels viewer x = ltb x (length levels) && leb (word levels x) viewer

-- 37: there are not exactly n levels, or a level or the viewer's is above 3
unfoldable pub levels_order : List ℕ → ℕ → ℕ → List Rule
levels_order levels viewer n =
    (37, not (eqb (length levels) n))
    ∷ (37, some n (λ x. ltb level_most (word levels x)))
    ∷ (37, ltb level_most viewer)
    ∷ []

-- the number, and how many labels are visible; none by refused levels
unfoldable pub checked_levels : List ℕ → ℕ → ℕ → CheckedLevels
checked_levels levels viewer n =
    let number = refusal (levels_order levels viewer n) in
    record { refusal = number; visible = if_accepted number (count n (is_visible levels viewer)) 0 }
