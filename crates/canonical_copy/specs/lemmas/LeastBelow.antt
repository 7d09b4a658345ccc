-- The smallest of what stands at a node or below, gathered from the last node on.
-- Assumes nothing.
use Rattle.std.specs.Prelude.{◌≡◌, List, ℕ, ◌≤◌, ◌<◌, length}
use Rattle.sums.specs.Bits.{bit}
use Rattle.shapes.specs.Ancestors.{anc}
use Rattle.tree_check.specs.Table.{word}

-- all are: the smallest of what stands at v or below
pub record LeastBelow (ps before after : List ℕ) : Type 0 where
  pub stands : (v : ℕ) → v < length ps
      → (w : ℕ) × (w < length ps) × (bit (anc (word ps) v w) ≡ 1) × (word after v ≡ word before w)
  pub least : (v w : ℕ) → v < length ps → w < length ps → bit (anc (word ps) v w) ≡ 1 → word after v ≤ word before w
