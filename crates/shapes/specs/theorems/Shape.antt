-- A shape: a tree given by parents, with n labels at different leaves. Inner nodes may have any number of
-- children, one included, and nothing is said of where label 0 sits.
-- Assumes nothing.
use Rattle.std.specs.Prelude.{◌≡◌, ◌≢◌, ℕ, ◌*◌, ◌≤◌, ◌<◌}
use Rattle.shapes.specs.theorems.AncestorLaws.{Rooted}
use Rattle.shapes.specs.Directions.{head}

-- at most one of the codes of k edges points to v
abbrev pub Leaf : (ℕ → ℕ) → ℕ → ℕ → Type 0
Leaf up k v = (c d : ℕ) → c < 2 * k → d < 2 * k → head up c ≡ v → head up d ≡ v → c ≡ d

pub record Shape (n : ℕ) : Type 0 where
  pub up : ℕ → ℕ
  pub tree : Rooted up
  -- edges 1 to k, and nodes 0 to k
  pub edges : ℕ
  pub node : ℕ → ℕ
  pub node_le : (x : ℕ) → x < n → node x ≤ edges
  pub node_ne : (x y : ℕ) → x < n → y < n → x ≢ y → node x ≢ node y
  pub leaf : (x : ℕ) → x < n → Leaf up edges (node x)
