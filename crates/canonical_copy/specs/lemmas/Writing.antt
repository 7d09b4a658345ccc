-- The words of the copy, written node by node.
-- Assumes nothing.
use Rattle.std.specs.Prelude.{◌≡◌, true, false, List, ℕ, ◌+◌, ◌*◌, ◌≤◌, ◌<◌, ltb, length}
use Rattle.table_words.specs.Sizes.{node_room, inner_label}
use Rattle.tree_check.specs.Table.{word}

-- the label word of a node with this rank; inner nodes have none below k
unfoldable pub label_for : ℕ → ℕ → ℕ
label_for rank k = elim (ltb rank k) [ true ↦ rank | false ↦ inner_label ]

-- the nodes that stay have different numbers below `count`, and the slice has words enough
pub record Writable (bits numbers : List ℕ) (m count : ℕ) (copy : List ℕ) : Type 0 where
  pub few : m ≤ node_room
  pub count_few : count ≤ node_room
  pub numbers_lt : (v : ℕ) → v < m → word bits v ≡ 1 → word numbers v < count
  pub numbers_one : (v w : ℕ) → v < m → w < m → word bits v ≡ 1 → word bits w ≡ 1 → word numbers v ≡ word numbers w → v ≡ w
  pub room : 2 + 2 * count ≤ length copy

-- what the slice holds once the nodes below i are written
pub record CopyWritten (ranks bits numbers above : List ℕ) (i k count : ℕ) (old new : List ℕ) : Type 0 where
  pub long : length new ≡ length old
  pub tips_word : word new 0 ≡ k
  pub nodes_word : word new 1 ≡ count
  pub parents : (v : ℕ) → v < i → word bits v ≡ 1 → word new (2 + word numbers v) ≡ word above v
  pub labels : (v : ℕ) → v < i → word bits v ≡ 1 → word new (2 + (count + word numbers v)) ≡ label_for (word ranks v) k
  -- the cells past the copy stay
  pub rest : (j : ℕ) → 2 + 2 * count ≤ j → word new j ≡ word old j
