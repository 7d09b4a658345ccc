-- The columns with two labels or more, listed one by one.
-- Assumes nothing.
use Rattle.std.specs.Prelude.{◌≡◌, List, ℕ, ◌+◌, ◌*◌, ◌-◌, ◌≤◌, ◌<◌, leb, length}
use Rattle.sums.specs.Sum.{sum}
use Rattle.sums.specs.Bits.{bit}
use Rattle.tree_check.specs.Table.{word}
use Rattle.tree_pairs.specs.lemmas.EdgeRows.{above_in, EarlierParents}

-- the first row is in the cells, and there is room for the lists
pub record ColumnRoom (work qs columns above : List ℕ) : Type 0 where
  pub parents : EarlierParents qs
  pub inside : length qs - 1 ≤ length work
  pub columns_long : length qs ≤ length columns
  pub above_long : length qs ≤ length above

-- a column from the second on, and its parent's
pub record Place (qs : List ℕ) (l p : ℕ) : Type 0 where
  pub later : 1 ≤ l
  pub column : l < length qs - 1
  pub parent : p ≡ above_in qs l

-- 1 if column l has two labels or more
abbrev pub is_wide : List ℕ → ℕ → ℕ
is_wide work l = bit (leb 2 (word work l))

-- of the first j columns from the second on, k are listed
pub record ListedTo (work qs : List ℕ) (j k : ℕ) (columns above : List ℕ) : Type 0 where
  pub few : k ≤ j
  pub columns_long : length qs ≤ length columns
  pub above_long : length qs ≤ length above
  pub places : (q : ℕ) → q < k → Place qs (word columns q) (word above q)
  -- they are those that have two labels or more
  pub sums : (F : ℕ → ℕ → ℕ)
      → sum k (λ q. F (word columns q) (word above q))
      ≡ sum j (λ i. is_wide work (i + 1) * F (i + 1) (above_in qs (i + 1)))

-- all columns
abbrev pub AllListed : List ℕ → List ℕ → ℕ → List ℕ → List ℕ → Type 0
AllListed work qs k columns above = ListedTo work qs (length qs - 2) k columns above
