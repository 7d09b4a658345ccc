-- How many branches each node has, which nodes stay, and how many at each node and below.
-- Assumes nothing.
use Rattle.std.specs.Prelude.{◌≡◌, Bool, ◌||◌, ◌&&◌, List, ℕ, ◌≤◌, ◌<◌, ltb, leb, eqb, length}
use Rattle.table_words.specs.Sizes.{node_room}
use Rattle.sums.specs.Bits.{bit}
use Rattle.sums.specs.Counts.{count}
use Rattle.shapes.specs.theorems.Totals.{Added}
use Rattle.tree_check.specs.Table.{word}

-- c is a child of v, and a rank below k stands at it or below
unfoldable pub branch_at : List ℕ → List ℕ → ℕ → ℕ → ℕ → Bool
branch_at ps lows k v c = ltb 0 c && eqb (word ps c) v && ltb (word lows c) k

-- the branches of each node, of the nodes below i
pub record BranchCounts (ps lows : List ℕ) (k i : ℕ) (counts : List ℕ) : Type 0 where
  pub long : length counts ≡ node_room
  pub counts_are : (v : ℕ) → v < length ps → word counts v ≡ count i (branch_at ps lows k v)

-- 1 for each node below i with a rank or two branches
pub record StayBits (ranks branches : List ℕ) (k i : ℕ) (bits : List ℕ) : Type 0 where
  pub long : length bits ≡ node_room
  pub bits_are : (v : ℕ) → v < i → word bits v ≡ bit (ltb (word ranks v) k || leb 2 (word branches v))

-- what the nodes have of their own
pub record OwnAtMostOne (m : ℕ) (own : List ℕ) : Type 0 where
  pub long : length own ≡ node_room
  pub small : (v : ℕ) → v < m → word own v ≤ 1

-- totals, with the nodes from i on added to their parents
pub record SizesAre (ps own : List ℕ) (i : ℕ) (sizes : List ℕ) : Type 0 where
  pub long : length sizes ≡ node_room
  pub added : Added (word ps) (length ps) (word own) (word sizes) i
