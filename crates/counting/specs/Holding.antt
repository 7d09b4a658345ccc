-- The sets of four that hold one label (docs/SPECIFICATION.md, 'Sets that hold a label').
-- Assumes nothing.
use Rattle.std.specs.Prelude.{List, ℕ}
use Rattle.sums.specs.Bits.{bit}
use Rattle.sums.specs.SetsOfFour.{sets3}
use Rattle.tree_check.specs.Table.{Table, tips}
use Rattle.trees.specs.Topology.{topology}
use Rattle.counting.specs.declared.Case.{Case}
use Rattle.counting.specs.Cases.{case_of, is_case}
use Rattle.counting.specs.Labels.{Labels}
use Rattle.counting.specs.Kept.{others}

-- how many sets of x and three of the labels l are in the case k
unfoldable pub holding : Labels → Table → Table → ℕ → Case → ℕ
holding l t u x k = sets3 l.number (λ a b c. bit (is_case (case_of
    (topology t x (l.at a) (l.at b) (l.at c)) (topology u x (l.at a) (l.at b) (l.at c))) k))

-- .. of x and three other kept labels: x itself may be kept or struck
abbrev pub holding_kept : Table → Table → List ℕ → ℕ → Case → ℕ
holding_kept t u marks x = holding (others marks x (tips t)) t u x
