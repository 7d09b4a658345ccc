-- What `canonical_copy` accepts, and what it leaves.
-- Assumes nothing.
use Rattle.std.specs.Prelude.{List, ℕ, ◌≤◌, length}
use Rattle.tree_check.specs.Table.{Table, tips}
use Rattle.tree_check.specs.IsTree.{IsTree}
use Rattle.marks.specs.Marks.{kept_of, AreMarks}
use Rattle.canonical.specs.CanonicalCopy.{canonical_copy}

-- accepted exactly if t is a tree table, the marks are marks of its labels and keep two or more, and the slice has room
pub record Copyable (marks : List ℕ) (t : Table) (room : ℕ) : Type 0 where
  pub tree : IsTree t
  pub are_marks : AreMarks marks (tips t)
  pub two : 2 ≤ kept_of marks (tips t)
  pub fits : length (canonical_copy marks t) ≤ room
