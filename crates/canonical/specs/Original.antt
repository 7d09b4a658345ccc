-- A tree table under the original rules, which know no pass-through node (docs/SPECIFICATION.md, 'The canonical copy').
-- Assumes nothing.
use Rattle.std.specs.Prelude.{◌≡◌, ℕ, ◌*◌, ◌-◌, ◌≤◌, ◌<◌}
use Rattle.table_words.specs.Sizes.{inner_label}
use Rattle.tree_check.specs.Table.{Table, tips, nodes, label}
use Rattle.tree_check.specs.IsTree.{IsTree, Child}

-- node i has two different children
pub record TwoChildren (t : Table) (i : ℕ) : Type 0 where
  pub one : ℕ
  pub two : ℕ
  pub apart : one < two
  pub first : Child t i one
  pub second : Child t i two

pub record IsOriginal (t : Table) : Type 0 where
  pub tree : IsTree t
  -- m is n to 2n − 2
  pub nodes_few : nodes t ≤ 2 * tips t - 2
  -- an inner node has two children or more
  pub inner_two : (i : ℕ) → i < nodes t → label t i ≡ inner_label → TwoChildren t i
