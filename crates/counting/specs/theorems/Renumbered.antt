-- A table whose nodes have other numbers has the same splits, so it gives the same topologies and figures.
-- Assumes nothing.
use Rattle.std.specs.Prelude.{◌≡◌, ℕ, ◌<◌}
use Rattle.tree_check.specs.Table.{Table, tips, nodes, parent, label}

-- the nodes of t' are those of t under other numbers: label and parent go along
pub record Renumbered (t t' : Table) : Type 0 where
  -- the number in t' of a node of t, and back
  pub to : ℕ → ℕ
  pub from : ℕ → ℕ
  pub same_tips : tips t ≡ tips t'
  pub to_node : (i : ℕ) → i < nodes t → to i < nodes t'
  pub from_node : (j : ℕ) → j < nodes t' → from j < nodes t
  pub from_to : (i : ℕ) → i < nodes t → from (to i) ≡ i
  pub to_from : (j : ℕ) → j < nodes t' → to (from j) ≡ j
  pub labels : (i : ℕ) → i < nodes t → label t' (to i) ≡ label t i
  pub parents : (i : ℕ) → i < nodes t → parent t' (to i) ≡ to (parent t i)
