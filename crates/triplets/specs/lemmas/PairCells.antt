-- What pairs of edges add, from the cells of both and of their parents' edges.
-- Assumes nothing.
use Rattle.std.specs.Prelude.{List, ℕ, ◌+◌, ◌*◌, ◌-◌, ◌≤◌, ◌<◌, length}
use Rattle.sums.specs.Sum.{sum}
use Rattle.shapes.specs.theorems.TripletCounts.{alike_term, apart_term}
use Rattle.tree_check.specs.Table.{word}
use Rattle.tree_pairs.specs.lemmas.EdgeRows.{above_in, EarlierParents}

pub record Nested (i r c w : ℕ) : Type 0 where
  pub in_row : i ≤ r
  pub in_column : i ≤ c
  pub in_whole : r + c ≤ w + i
  pub few : w ≤ 256

-- the cell of row i and column l
abbrev pub pair_cell : List ℕ → List ℕ → ℕ → ℕ → ℕ
pair_cell work qs i l = word work (i * (length qs - 1) + l)

-- what row i and column l add to twice A ..
abbrev pub alike_cell : List ℕ → List ℕ → List ℕ → ℕ → ℕ → ℕ
alike_cell work ps qs i l = alike_term (pair_cell work qs i l) (pair_cell work qs i (above_in qs l))
    (pair_cell work qs (above_in ps i) l) (pair_cell work qs (above_in ps i) (above_in qs l))

-- .. and to B
abbrev pub apart_cell : List ℕ → List ℕ → List ℕ → ℕ → ℕ → ℕ
apart_cell work ps qs i l =
    apart_term (pair_cell work qs i l) (pair_cell work qs i (above_in qs l)) (pair_cell work qs (above_in ps i) l)

-- row i with all columns from the second on
unfoldable pub alike_row : List ℕ → List ℕ → List ℕ → ℕ → ℕ
alike_row work ps qs i = sum (length qs - 2) (λ l. alike_cell work ps qs i (l + 1))

unfoldable pub triplets_apart_row : List ℕ → List ℕ → List ℕ → ℕ → ℕ
triplets_apart_row work ps qs i = sum (length qs - 2) (λ l. apart_cell work ps qs i (l + 1))

-- all rows from the second on
unfoldable pub alike_sum : List ℕ → List ℕ → List ℕ → ℕ
alike_sum work ps qs = sum (length ps - 2) (λ i. alike_row work ps qs (i + 1))

unfoldable pub apart_sum : List ℕ → List ℕ → List ℕ → ℕ
apart_sum work ps qs = sum (length ps - 2) (λ i. triplets_apart_row work ps qs (i + 1))

-- the cells of two trees
pub record CrossedCells (work ps qs : List ℕ) : Type 0 where
  pub first : EarlierParents ps
  pub second : EarlierParents qs
  pub inside : (length ps - 1) * (length qs - 1) ≤ length work
  -- a cell is at most the first of its row, and at most the first of its column
  pub row_most : (i l : ℕ) → i < length ps - 1 → l < length qs - 1 → pair_cell work qs i l ≤ word work (i * (length qs - 1))
  pub column_most : (i l : ℕ) → i < length ps - 1 → l < length qs - 1 → pair_cell work qs i l ≤ word work l
  pub nested : (i l : ℕ) → 1 ≤ i → i < length ps - 1 → 1 ≤ l → l < length qs - 1
      → Nested (pair_cell work qs i l) (pair_cell work qs i (above_in qs l))
      (pair_cell work qs (above_in ps i) l) (pair_cell work qs (above_in ps i) (above_in qs l))
