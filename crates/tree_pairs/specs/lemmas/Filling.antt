-- The rows are written from spans and added up the first tree: what is left is the crossings.
-- Assumes nothing.
use Rattle.std.specs.Prelude.{◌≡◌, List, ℕ, ◌*◌, ◌-◌, ◌≤◌, length}
use Rattle.tree_check.specs.Table.{Table, tips, nodes}
use Rattle.tree_check.specs.IsTree.{IsTree}
use Rattle.walks.specs.lemmas.TreeArrays.{TreeArrays}

-- the arrays of a tree table on n tips, another tree table on as many, and a cell for each pair of edges
pub record PairArrays (n : ℕ) (ps ls : List ℕ) (u : Table) (work : List ℕ) : Type 0 where
  pub first : TreeArrays n ps ls
  pub second : IsTree u
  pub tips_are : tips u ≡ n
  pub room : (length ps - 1) * (nodes u - 1) ≤ length work
