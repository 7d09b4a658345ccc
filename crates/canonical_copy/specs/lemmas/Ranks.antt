-- The ranks of labels in the table that is re-rooted at the smallest kept label, and the rank at each node.
-- Assumes nothing.
use Rattle.std.specs.Prelude.{◌≡◌, true, false, List, ltb, length}
use Prim.Native.Nat.{ℕ, ◌≤◌, ◌<◌}
use Rattle.table_words.specs.Sizes.{tips_most, node_room}
use Rattle.sums.specs.Bits.{bit}
use Rattle.sums.specs.Counts.{count}
use Rattle.tree_check.specs.Table.{word}
use Rattle.marks.specs.Marks.{is_kept}

-- x is the smallest kept label, and k are kept
pub record Rankable (marks : List ℕ) (x k : ℕ) : Type 0 where
  pub few : length marks ≤ tips_most
  pub label : x < length marks
  pub bit_kept : bit (is_kept marks x) ≡ 1
  pub first : count x (is_kept marks) ≡ 0
  pub number : k ≡ count (length marks) (is_kept marks)

-- the labels below y have their ranks
pub record RankedTo (marks : List ℕ) (x k y rank : ℕ) (ranks : List ℕ) : Type 0 where
  pub long : length ranks ≡ tips_most
  pub next : rank ≡ count y (is_kept marks)
  pub zero : word ranks 0 ≡ 0
  pub later : (z : ℕ) → x < z → z < y → bit (is_kept marks z) ≡ 1 → word ranks z ≡ count z (is_kept marks)
  pub other : (z : ℕ) → 1 ≤ z → z < tips_most → (x < z → z < y → bit (is_kept marks z) ≡ 1 → ⊥) → word ranks z ≡ k

-- all have: 0 for label 0, which x was; its own rank for each kept label after x; k for the others
pub record RanksAre (marks : List ℕ) (x k : ℕ) (ranks : List ℕ) : Type 0 where
  pub long : length ranks ≡ tips_most
  pub zero : word ranks 0 ≡ 0
  pub later : (z : ℕ) → x < z → z < length marks → bit (is_kept marks z) ≡ 1 → word ranks z ≡ count z (is_kept marks)
  pub other : (z : ℕ) → 1 ≤ z → z < tips_most → (x < z → z < length marks → bit (is_kept marks z) ≡ 1 → ⊥) → word ranks z ≡ k

-- the rank of a label word, and k where it is none
unfoldable pub rank_of : List ℕ → ℕ → ℕ → ℕ
rank_of ranks k y = elim (ltb y tips_most) [ true ↦ word ranks y | false ↦ k ]

-- the nodes below i have their ranks, and later ones k
pub record NodeRanks (labels ranks : List ℕ) (k i : ℕ) (at : List ℕ) : Type 0 where
  pub long : length at ≡ node_room
  pub rank_is : (v : ℕ) → v < i → word at v ≡ rank_of ranks k (word labels v)
  pub later : (v : ℕ) → i ≤ v → v < node_room → word at v ≡ k
