-- The topology of four labels, for a viewer (docs/SPECIFICATION.md, 'Levels' and 'Topology for a viewer').
-- Assumes nothing.
use Rattle.std.specs.Prelude.{not, List, [], ◌∷◌, ◌++◌, ℕ, length}
use Rattle.sums.specs.Tests.{some}
use Rattle.tree_check.specs.Table.{Table, word, tips}
use Rattle.tree_check.specs.Refusals.{Rule, refusal}
use Rattle.tree_check.specs.TreeOrder.{tree_order}
use Rattle.asked_labels.specs.LabelOrder.{two_equal}
use Rattle.trees.specs.Topology.{topology_under, TopologyTold}
use Rattle.trees.specs.declared.quartet.TopologyAnswer.{TopologyAnswer}
use Rattle.levels.specs.Levels.{is_visible, levels_order}

-- the table's order, then 37
unfoldable pub levelled_order : Table → List ℕ → ℕ → List Rule
levelled_order t levels viewer = tree_order t ++ levels_order levels viewer (tips t)

-- 10: a label that is asked about is hidden, or does not exist; 11: two of them are equal
unfoldable pub hidden_order : List ℕ → ℕ → List ℕ → List Rule
hidden_order levels viewer xs =
    (10, some (length xs) (λ i. not (is_visible levels viewer (word xs i)))) ∷ (11, two_equal xs) ∷ []

-- .. then 10 and 11
unfoldable pub view_label_order : Table → List ℕ → ℕ → List ℕ → List Rule
view_label_order t levels viewer xs = levelled_order t levels viewer ++ hidden_order levels viewer xs

-- the number, and the topology of four visible labels or a star
unfoldable pub view_topology : Table → List ℕ → ℕ → ℕ → ℕ → ℕ → ℕ → TopologyAnswer
view_topology t levels viewer a b c d = topology_under (refusal (view_label_order t levels viewer (a ∷ b ∷ c ∷ d ∷ []))) t a b c d

-- what an answer tells of the edges
abbrev pub ViewTold : Table → List ℕ → ℕ → ℕ → ℕ → ℕ → ℕ → TopologyAnswer → Type 0
ViewTold t levels viewer a b c d r = TopologyTold (refusal (view_label_order t levels viewer (a ∷ b ∷ c ∷ d ∷ []))) t a b c d r
