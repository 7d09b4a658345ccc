-- The rows of the first tree's nodes: a tip's has 1 at the second tree's nodes in whose spans the tip with the same label is.
-- Assumes nothing.
use Rattle.std.specs.Prelude.{◌≡◌, Bool, ◌&&◌, List, ℕ, ◌+◌, ◌*◌, ◌-◌, ◌≤◌, ◌<◌, ltb, length}
use Rattle.table_words.specs.Sizes.{tips_most, node_room}
use Rattle.table_words.specs.lemmas.Rooms.{work_room}
use Rattle.sums.specs.Bits.{bit}
use Rattle.tree_check.specs.Table.{word}
use Rattle.marks.specs.Marks.{is_kept}
use Rattle.tree_pairs.specs.lemmas.Grid.{cell_at}
use Rattle.walks.specs.theorems.SpanLaws.{in_span}

-- the row of w cells that begins at `base` lies inside
pub record RowRoom (work : List ℕ) (base w : ℕ) : Type 0 where
  pub low : base ≤ work_room
  pub narrow : w < node_room
  pub inside : base + w ≤ length work

-- the first k cells of the row hold f 0, f 1, ..
pub record RowFilled (f : ℕ → ℕ) (base k : ℕ) (old new : List ℕ) : Type 0 where
  pub long : length new ≡ length old
  pub cells : (j : ℕ) → j < k → word new (base + j) ≡ f j
  pub before : (c : ℕ) → c < base → word new c ≡ word old c
  pub after : (c : ℕ) → base + k ≤ c → word new c ≡ word old c

-- 1 at the nodes in whose spans place `at` lies
abbrev pub in_spans : List ℕ → List ℕ → ℕ → ℕ → ℕ
in_spans begin end at j = bit (in_span at (word begin (j + 1)) (word end (j + 1)))

-- no 1
abbrev pub nothing : ℕ → ℕ
nothing j = 0

-- x is one of n labels, and kept
unfoldable pub counted_label : List ℕ → ℕ → ℕ → Bool
counted_label ks n x = is_kept ks x && ltb x n

-- room for the rows, and nodes that have spans
pub record TipRoom (ls : List ℕ) (n w : ℕ) (labelled work : List ℕ) : Type 0 where
  pub narrow : w < node_room
  pub rows : (1 ≤ length ls) × (length ls ≤ node_room)
  pub tips : n ≤ tips_most
  pub node : (x : ℕ) → x < n → word labelled x < node_room
  pub inside : (length ls - 1) * w ≤ length work

-- the rows of the nodes below k are written: of a counted label, 1 at the nodes in whose spans its node begins; the cells after
-- them are as they were
pub record TipRows (ls ks : List ℕ) (n w : ℕ) (labelled begin end : List ℕ) (k : ℕ) (old new : List ℕ) : Type 0 where
  pub long : length new ≡ length old
  pub rows : (v j : ℕ) → 1 ≤ v → v < k → j < w
      → cell_at new w v j
      ≡ bit (counted_label ks n (word ls v)) * in_spans begin end (word begin (word labelled (word ls v))) j
  pub rest : (c : ℕ) → (k - 1) * w ≤ c → word new c ≡ word old c
