-- Tables with the same splits have the same clusters, those of tips and of edge 1 as well.
-- Assumes nothing.
use Rattle.std.specs.Prelude.{◌≡◌, ℕ, ◌≤◌, ◌<◌}
use Rattle.shapes.specs.Splits.{same}
use Rattle.tree_check.specs.Table.{Table, nodes, beyond}

-- edge i of the one table and edge j of the other have the same labels of n beyond
pub record Match (n : ℕ) (t u : Table) (i j : ℕ) : Type 0 where
  pub pos_i : 1 ≤ i
  pub few_i : i < nodes t
  pub pos_j : 1 ≤ j
  pub few_j : j < nodes u
  pub same : (x : ℕ) → x < n → beyond t i x ≡ beyond u j x

abbrev pub Partners : ℕ → Table → Table → Type 0
Partners n t u = (i : ℕ) → 1 ≤ i → i < nodes t → (j : ℕ) × Match n t u i j
