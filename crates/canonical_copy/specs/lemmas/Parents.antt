-- The parent words of a tree: each but the first is a smaller number than its node.
-- Assumes nothing.
use Rattle.std.specs.Prelude.{List, ℕ, ◌≤◌, length}
use Rattle.table_words.specs.Sizes.{node_room}
use Rattle.shapes.specs.theorems.AncestorLaws.{Rooted}
use Rattle.tree_check.specs.Table.{word}

pub record ParentsBefore (ps : List ℕ) : Type 0 where
  pub rooted : Rooted (word ps)
  pub some : 1 ≤ length ps
  pub few : length ps ≤ node_room
