-- Q with three pass-through nodes, and Q: the one is the other with its pass-through nodes taken out, and their figures are the
-- same, computed from the definitions and by the theorem.
-- Assumes nothing.
use Rattle.std.specs.Prelude.{[], ◌∷◌}
use Rattle.tree_check.specs.Table.{Table, nodes}
use Rattle.walks.specs.theorems.WalkExamples.{X, Q}

-- Q with three nodes more: node 1, between tip 0 and the inner node next to it, and the nodes 7 and 8 in a row above tip 4
abbrev pub QPassing : Table
QPassing = 5 ∷ 10 ∷ 0 ∷ 0 ∷ 1 ∷ 2 ∷ 2 ∷ 4 ∷ 4 ∷ 4 ∷ 7 ∷ 8 ∷ 0 ∷ X ∷ X ∷ 1 ∷ X ∷ 2 ∷ 3 ∷ X ∷ X ∷ 4 ∷ []
