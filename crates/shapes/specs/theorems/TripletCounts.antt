-- The triplets of two shapes with the label 0 at the root, counted by sums over pairs of edges.
-- Assumes nothing.
use Rattle.std.specs.Prelude.{◌≡◌}
use Prim.Native.Nat.{ℕ, suc, ◌+◌, ◌*◌, ◌-◌, ◌≤◌, ◌<◌}
use Rattle.shapes.specs.theorems.Shape.{Shape}

-- the label 0 sits at node 0, whose one child is node 1
pub record Outgroup {n : ℕ} (t : Shape n) : Type 0 where
  pub at_root : t.node 0 ≡ 0
  pub some : 1 ≤ t.edges
  pub one_child : (j : ℕ) → 1 ≤ j → j < t.edges → 1 ≤ t.up (suc j)

-- twice the sets with two labels beyond both edges, and the third beyond both parents' edges alone
unfoldable pub alike_term : ℕ → ℕ → ℕ → ℕ → ℕ
alike_term i r c w = i * (i - 1) * (w + i - r - c)

-- the sets with one label beyond both edges, one beyond the first alone, one beyond the second alone
unfoldable pub apart_term : ℕ → ℕ → ℕ → ℕ
apart_term i r c = i * ((r - i) * (c - i))

-- one shape: s labels lie beyond an edge, p beyond its parent's
unfoldable pub edge_term : ℕ → ℕ → ℕ
edge_term s p = s * (s - 1) * (p - s)
