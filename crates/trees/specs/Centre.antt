-- The centre of three labels in a tree table (docs/SPECIFICATION.md, 'Paths and the centre' and 'Centre').
-- Assumes nothing.
use Rattle.std.specs.Prelude.{[], ◌∷◌, ℕ, ◌-◌}
use Rattle.shapes.specs.Centres.{centre_of}
use Rattle.tree_check.specs.Table.{Table, nodes, parent, node_of}
use Rattle.tree_check.specs.Refusals.{refusal, if_accepted}
use Rattle.trees.specs.declared.centres.CentreAnswer.{CentreAnswer}
use Rattle.asked_labels.specs.LabelOrder.{label_order}

-- the node at which the paths between each two of the three tips join
unfoldable pub centre : Table → ℕ → ℕ → ℕ → ℕ
centre t a b c = centre_of (parent t) (nodes t - 1) (node_of t a) (node_of t b) (node_of t c)

-- the number, and the centre or 0
unfoldable pub centre_answer : Table → ℕ → ℕ → ℕ → CentreAnswer
centre_answer t a b c =
    let number = refusal (label_order t (a ∷ b ∷ c ∷ [])) in
    record { refusal = number; node = if_accepted number (centre t a b c) 0 }
