-- The exchanges of a table are those of its shape: the distance by the cost of a path, and the tallies.
-- Assumes nothing.
use Rattle.shapes.specs.theorems.Shape.{Shape}
use Rattle.tree_check.specs.Table.{Table, tips}
use Rattle.tree_check.specs.IsTree.{IsTree}
use Rattle.counting.specs.Labels.{all}
use Rattle.counting.proofs.theorems.LabelLaws.{all-rising}
use Rattle.counting.proofs.theorems.TreeShape.{shape_of}

-- the shape of a tree table, with all its labels
abbrev pub shape : (t : Table) → IsTree t → Shape (tips t)
shape t g = shape_of t g (all (tips t)) (all-rising (tips t))
