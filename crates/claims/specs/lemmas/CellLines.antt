-- Cells on a line, evenly spaced in a slice: what is summed over them, and the bounds that keep the sums in 64 bits.
-- Assumes nothing.
use Rattle.std.specs.Prelude.{List, ℕ, ◌+◌, ◌*◌, ◌-◌, ◌≤◌, ◌<◌, length}
use Rattle.table_words.specs.Sizes.{tips_most}
use Rattle.sums.specs.Sum.{sum}
use Rattle.tree_check.specs.Table.{word}

-- ---- lines

-- cell a of the line that begins at `at`
abbrev pub line_cell : List ℕ → ℕ → ℕ → ℕ → ℕ
line_cell cells at step a = word cells (at + a * step)

-- .. times the rest of its total
abbrev pub rest_cell : List ℕ → List ℕ → ℕ → ℕ → ℕ → ℕ
rest_cell cells totals at step a = line_cell cells at step a * (word totals a - line_cell cells at step a)

-- the square of each value
abbrev pub squared : (ℕ → ℕ) → ℕ → ℕ
squared f a = f a * f a

-- of lines that begin `gap` apart, the i-th: its sum ..
abbrev pub line_sum : List ℕ → ℕ → ℕ → ℕ → ℕ → ℕ
line_sum cells gap step len i = sum len (line_cell cells (i * gap) step)

-- .. and its cells times the rests of their totals
abbrev pub line_rest : List ℕ → List ℕ → ℕ → ℕ → ℕ → ℕ → ℕ
line_rest cells totals gap step len i = sum len (rest_cell cells totals (i * gap) step)

-- ---- bounds

-- a line lies in a slice of `size` cells
pub record Line (size at step len : ℕ) : Type 0 where
  pub inside : (a : ℕ) → a < len → at + a * step < size
  pub len_le : len ≤ 65536
  pub step_le : step ≤ 65536
  pub at_le : at ≤ 65536

-- `count` lines that begin `gap` apart
pub record Lines (size gap count step len : ℕ) : Type 0 where
  pub line : (i : ℕ) → i < count → Line size (i * gap) step len
  pub gap_le : gap ≤ 65536

-- no cell is more than its total, and the totals are few and low
pub record Totals (cells totals : List ℕ) (at step len : ℕ) : Type 0 where
  pub covers : (a : ℕ) → a < len → line_cell cells at step a ≤ word totals a
  pub low : (a : ℕ) → a < len → word totals a ≤ tips_most
  pub inside : len ≤ length totals
  pub few : len ≤ tips_most

-- .. on each of `count` lines that begin `gap` apart
pub record AllTotals (cells totals : List ℕ) (gap count step len : ℕ) : Type 0 where
  pub line : (i : ℕ) → i < count → Totals cells totals (i * gap) step len

-- the first `len` numbers of a list are few and low
pub record LowNumbers (xs : List ℕ) (len : ℕ) : Type 0 where
  pub inside : len ≤ length xs
  pub few : len ≤ tips_most
  pub low : (a : ℕ) → a < len → word xs a ≤ 65536
