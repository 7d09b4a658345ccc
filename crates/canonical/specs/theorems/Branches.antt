-- Branches of a tree that is rooted at the tip of its label 0: what stays, and the first node that stays in a branch.
-- Assumes nothing.
use Rattle.std.specs.Prelude.{◌≡◌, ℕ, ◌≤◌, ◌<◌, T}
use Rattle.shapes.specs.theorems.AncestorLaws.{Rooted}
use Rattle.canonical.specs.Copying.{full, tip}

-- rooted at the tip of label 0, which has one child at most; other tips have none
pub record TipRooted (up : ℕ → ℕ) (m : ℕ) (node : ℕ → ℕ) (k : ℕ) : Type 0 where
  pub tree : Rooted up
  pub two : 2 ≤ k
  pub node_lt : (x : ℕ) → x < k → node x < m
  pub node_one : (x y : ℕ) → x < k → y < k → node x ≡ node y → x ≡ y
  pub root : node 0 ≡ 0
  pub bare : (x c : ℕ) → 1 ≤ x → x < k → 1 ≤ c → c < m → up c ≡ node x → ⊥
  pub stem : (c d : ℕ) → 1 ≤ c → c < m → 1 ≤ d → d < m → up c ≡ 0 → up d ≡ 0 → c ≡ d

pub record Branch (up : ℕ → ℕ) (m : ℕ) (node : ℕ → ℕ) (k v c : ℕ) : Type 0 where
  pub pos : 1 ≤ c
  pub below : up c ≡ v
  pub holds : T (full up m node k c)
