-- A table that was checked, with the sizes that the check told.
-- Assumes nothing.
use Rattle.std.specs.Prelude.{◌≡◌, ℕ, ◌+◌, ◌*◌, ◌≤◌, length}
use Rattle.std.proofs.Common.{arith}
use Rattle.table_words.specs.Sizes.{node_room, tips_most}
use Rattle.tree_check.specs.Table.{Table, tips, nodes}
use Rattle.tree_check.specs.IsTree.{IsTree}

pub record Sized (t : Table) (n m : ℕ) : Type 0 where
  pub tree : IsTree t
  pub tips_are : n ≡ tips t
  pub nodes_are : m ≡ nodes t

pub sized_fit : (t : Table) (n m : ℕ) → Sized t n m
    → (2 ≤ n) × (n ≤ tips_most) × (2 ≤ m) × (m ≤ node_room) × (length t ≡ 2 + 2 * m)
sized_fit t n m h = let g = h.tree in
    omega (arith, h.tips_are, h.nodes_are, g.tips_range, g.nodes_range, g.words)
