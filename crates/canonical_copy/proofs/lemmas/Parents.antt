-- The parent words of a tree: each but the first is a smaller number than its node.
-- Assumes nothing.
use Rattle.std.specs.Prelude.{List, ℕ, zero, suc, ◌≤◌, ◌<◌, length}
use Rattle.std.proofs.Common.{arith}
use Rattle.table_words.specs.Sizes.{node_room}
use Rattle.shapes.proofs.theorems.AncestorLaws.{parent-lt}
use Rattle.tree_check.specs.Table.{word}
use Rattle.canonical_copy.specs.lemmas.Parents.{ParentsBefore}

module _ (ps : List ℕ) (y : ParentsBefore ps) where
  pub parent_room : (c : ℕ) → 1 ≤ c → c < length ps → (word ps c < c) × (c < node_room) × (word ps c < node_room)
  parent_room c p l = omega (arith, parent-lt (word ps) y.rooted c p, y.few)

  pub parent-le : (v : ℕ) → word ps v ≤ v
  parent-le zero = omega (arith, y.rooted.root)
  parent-le (suc w) = omega (arith, y.rooted.falls w)

  pub up_room : (v : ℕ) → v < length ps → (word ps v ≤ v) × (v < node_room) × (word ps v < node_room)
  up_room v l = omega (arith, parent-le v, y.few)
