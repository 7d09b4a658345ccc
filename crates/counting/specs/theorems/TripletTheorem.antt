-- The triplet theorem: triplets are the quartets that hold tip 0, and what the five counts add up to.
-- Assumes nothing.
use Rattle.std.specs.Prelude.{ℕ, ◌+◌, ◌*◌}
use Rattle.sums.specs.Bits.{bit, is}
use Rattle.sums.specs.SetsOfFour.{sets4}
use Rattle.tree_check.specs.Table.{Table, tips}
use Rattle.trees.specs.Topology.{topology}
use Rattle.counting.specs.declared.Case.{Case}
use Rattle.counting.specs.Cases.{case_of, is_case}

-- 1 if tip 0 is one of the four
abbrev pub holds_tip0 : ℕ → ℕ → ℕ → ℕ → ℕ
holds_tip0 w x y z = is 0 w + is 0 x + is 0 y + is 0 z

-- how many sets of four that hold tip 0 are in the case k
unfoldable pub quartets_with_tip0 : Table → Table → Case → ℕ
quartets_with_tip0 t u k = sets4 (tips t) (λ w x y z.
    holds_tip0 w x y z * bit (is_case (case_of (topology t w x y z) (topology u w x y z)) k))
