-- The copy of a tree that is rooted at the tip of rank 0, from its arrays into a slice.
-- Assumes nothing.
use Rattle.std.specs.Prelude.{◌≡◌, length}
use mathlib.Core.List.{List}
use Prim.Native.Nat.{ℕ, ◌≤◌, ◌<◌}
use Rattle.table_words.specs.Sizes.{tips_most, node_room}
use Rattle.tree_check.specs.Table.{word}
use Rattle.canonical.specs.Copying.{copy_of}
use Rattle.canonical.specs.theorems.Branches.{TipRooted}
use Rattle.canonical_copy.specs.CopyAnswer.{written_over}
use Rattle.canonical_copy.specs.lemmas.Ranks.{rank_of}

-- the parents and labels of a tree with k ranks, rooted at the tip of rank 0, and the rank of each label
pub record RootedRanks (ps labels ranks : List ℕ) (k : ℕ) : Type 0 where
  pub node : ℕ → ℕ
  pub rooted : TipRooted (word ps) (length ps) node k
  pub few : length ps ≤ node_room
  pub small : k ≤ tips_most
  pub same : length labels ≡ length ps
  pub own : (x : ℕ) → x < k → rank_of ranks k (word labels (node x)) ≡ x
  pub other : (v : ℕ) → v < length ps → ((x : ℕ) → x < k → node x ≡ v → ⊥) → rank_of ranks k (word labels v) ≡ k

-- the words c in a slice, and how many there are; nothing where the slice is too short
pub record CopiedInto (c old new : List ℕ) (r : ℕ) : Type 0 where
  pub short : length old < length c → (r ≡ 0) × (new ≡ old)
  pub long : length c ≤ length old → (r ≡ length c) × (new ≡ written_over c old)

-- .. for the copy of such a tree
pub record CopiedFrom (ps labels ranks : List ℕ) (k : ℕ) (old new : List ℕ) (r : ℕ) : Type 0 where
  pub into : (y : RootedRanks ps labels ranks k) → CopiedInto (copy_of (word ps) (length ps) y.node k) old new r
