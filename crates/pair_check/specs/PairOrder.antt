-- The order of refusals of a pair of tables, and the pairs that it accepts.
-- Assumes nothing.
use Rattle.std.specs.Prelude.{◌≡◌, not, List, [], ◌∷◌, ◌++◌, ℕ, ◌+◌, ◌*◌, ◌-◌, ◌≤◌, eqb, ltb}
use Rattle.tree_check.specs.Table.{Table, tips, nodes}
use Rattle.tree_check.specs.Refusals.{Rule}
use Rattle.tree_check.specs.IsTree.{IsTree}
use Rattle.tree_check.specs.TreeOrder.{tree_order}
use Rattle.marks.specs.Marks.{marks_order, AreMarks}

-- the same rules, their numbers plus k
unfoldable pub plus : ℕ → List Rule → List Rule
plus k [] = []
plus k (r ∷ rs) = (k + r.0, r.1) ∷ plus k rs

-- 8: the two n differ
unfoldable pub tips_order : Table → Table → List Rule
tips_order t u = (8, not (eqb (tips t) (tips u))) ∷ []

-- the first table by 1 to 7 and 31, the second by 100 more, then 8: what two tables alone are held to
unfoldable pub tables_order : Table → Table → List Rule
tables_order t u = tree_order t ++ (plus 100 (tree_order u) ++ tips_order t u)

-- one cell for each pair of edges
abbrev pub cells_needed : Table → Table → ℕ
cells_needed t u = (nodes t - 1) * (nodes u - 1)

-- 9: there are fewer than (m − 1)(m' − 1) work cells
unfoldable pub work_order : Table → Table → ℕ → List Rule
work_order t u cells = (9, ltb cells (cells_needed t u)) ∷ []

-- the order of a pair call without marks, with so many work cells
unfoldable pub cells_order : Table → Table → ℕ → List Rule
cells_order t u cells = tables_order t u ++ work_order t u cells

-- the order of a pair call with marks: 32 after 8 and before 9
unfoldable pub pair_order : Table → Table → List ℕ → ℕ → List Rule
pair_order t u marks cells = tables_order t u ++ (marks_order marks (tips t) ++ work_order t u cells)

-- two tree tables on the same tips
pub record IsPair (t u : Table) : Type 0 where
  pub first : IsTree t
  pub second : IsTree u
  pub same_tips : tips t ≡ tips u

-- .. and a cell for each pair of edges
pub record PairWithCells (t u : Table) (cells : ℕ) : Type 0 where
  pub pair : IsPair t u
  pub room : cells_needed t u ≤ cells

-- .. and a mark of 0 or 1 for each label
pub record MarkedPair (t u : Table) (marks : List ℕ) (cells : ℕ) : Type 0 where
  pub with_cells : PairWithCells t u cells
  pub marked : AreMarks marks (tips t)
