-- What a row adds, from the listed columns; and the bounds that keep the sums in 64 bits.
-- Assumes nothing.
use Rattle.std.specs.Prelude.{◌≡◌, refl, List, ℕ, ◌+◌, ◌*◌, ◌-◌, ◌≤◌, ◌<◌, leb}
use Rattle.std.proofs.Common.{◌∙◌, ap, lt_of_not-le}
use Rattle.std.proofs.Math.Nat.{mul-le-mul_right}
use Rattle.std.proofs.Math.Decide.{dec_lt}
use native.Mathlib.Omega.{arith}
use Rattle.std.proofs.Math.ListN.{length}
use Rattle.table_words.specs.Sizes.{node_room}
use Rattle.table_words.specs.lemmas.Rooms.{work_room}
use Rattle.sums.specs.Sum.{sum}
use Rattle.sums.specs.theorems.SumLaws.{sum_ext}
use Rattle.sums.specs.theorems.BitLaws.{bit-T}
use Rattle.sums.specs.theorems.TestLaws.{le_iff}
use Rattle.sums.specs.theorems.Products.{product_le}
use Rattle.shapes.specs.theorems.TripletCounts.{alike_term, apart_term}
use Rattle.tree_check.specs.Table.{word}
use Rattle.tree_pairs.proofs.theorems.CrossingLaws.{cell_inside}
use Rattle.tree_pairs.specs.lemmas.EdgeRows.{above_in}
use Rattle.triplets.proofs.lemmas.EdgeSums.{sum_most}
use Rattle.triplets.specs.lemmas.PairCells.{Nested, CrossedCells, alike_cell, apart_cell, alike_row, triplets_apart_row}
use Rattle.triplets.proofs.lemmas.PairCells.{alike_most, apart_most, alike_column_none, apart_column_zero}
use Rattle.triplets.specs.lemmas.ListedColumns.{ColumnRoom, AllListed, is_wide}
use Rattle.triplets.specs.lemmas.ListedRows.{FourCells, RowCells, alike_at, alike_listed, apart_at, apart_listed}

-- ---- the cells as they are read

pub nested_read : (i r c w i' r' c' w' : ℕ) → i ≡ i' → r ≡ r' → c ≡ c' → w ≡ w' → Nested i' r' c' w' → Nested i r c w
nested_read i r c w i' r' c' w' ei er ec ew h = rw (ei, er, ec, ew) h

pub alike_read : (i r c w i' r' c' w' : ℕ) → i ≡ i' → r ≡ r' → c ≡ c' → w ≡ w' → alike_term i r c w ≡ alike_term i' r' c' w'
alike_read i r c w i' r' c' w' ei er ec ew = rw (ei, er, ec, ew) refl

pub apart_read : (i r c i' r' c' : ℕ) → i ≡ i' → r ≡ r' → c ≡ c' → apart_term i r c ≡ apart_term i' r' c'
apart_read i r c i' r' c' ei er ec = rw (ei, er, ec) refl

-- what the second term asks
pub nested_parts : (i r c w : ℕ) → Nested i r c w → (i ≤ r) × (i ≤ c) × (r ≤ 256) × (c ≤ 256)
nested_parts i r c w h = (
  h.in_row,
  h.in_column,
  omega (arith, h.in_column, h.in_whole, h.few),
  omega (arith, h.in_row, h.in_whole, h.few),
)

-- ---- bounds

module _ (work : List ℕ) (base up : ℕ) (columns above : List ℕ) (k : ℕ) (h : RowCells work base up columns above k) where
  -- the sums of the first j columns
  pub listed_low : (j : ℕ) → j ≤ k
      → (alike_listed work base up columns above j ≤ 17179869184) × (apart_listed work base up columns above j ≤ 17179869184)
  unfolding alike_listed apart_listed
  listed_low j l = (
    omega (
      arith,
      sum_most j 16777216 _ (λ q m. alike_most _ _ _ _ (h.four q (omega arith)).nested),
      mul-le-mul_right 16777216 few,
    ),
    omega (
      arith,
      sum_most j 16777216 _ (λ q m. apart_most _ _ _ _ (h.four q (omega arith)).nested),
      mul-le-mul_right 16777216 few,
    ),
  )
    where
      few : j ≤ node_room
      few = omega (arith, h.few)

-- ---- the rows of two trees

module _ (work ps qs : List ℕ) (h : CrossedCells work ps qs) (row : ℕ) (l1 : 1 ≤ row) (l2 : row < length ps - 1) where
  up_is : above_in ps row < row
  up_is = let e = h.first.earlier row l1 l2 in omega (arith, e.0, e.1)

  cell_in : (i l : ℕ) → i < length ps - 1 → l < length qs - 1 → i * (length qs - 1) + l < length work
  cell_in i l a b = omega (arith, cell_inside i l (length ps - 1) (length qs - 1) a b, h.inside)

  start_low : (i : ℕ) → i < length ps - 1 → i * (length qs - 1) ≤ work_room
  start_low i a = omega (
    arith,
    product_le node_room node_room i (length qs - 1) (omega (arith, h.first.few)) (omega (arith, h.second.few)),
  )

  pub row_starts : (row * (length qs - 1) ≤ work_room) × (above_in ps row * (length qs - 1) ≤ work_room)
      × (row * (length qs - 1) < length work)
  row_starts = (
    start_low row l2,
    start_low (above_in ps row) (omega (arith, up_is)),
    omega (arith, cell_in row 0 l2 (omega (arith, h.second.some))),
  )

  four_cells : (l : ℕ) → 1 ≤ l → l < length qs - 1
      → FourCells work (row * (length qs - 1)) (above_in ps row * (length qs - 1)) l (above_in qs l)
  four_cells l a b =
      let e = h.second.earlier l a b in
      let c : above_in qs l < length qs - 1 = omega (arith, e.0, e.1) in
      let d : above_in ps row < length ps - 1 = omega (arith, up_is) in
      record {
        low = (row_starts.0, row_starts.1, omega (arith, h.second.few), omega (arith, h.second.few));
        inside = (cell_in row l l2 b, cell_in row (above_in qs l) l2 c, cell_in (above_in ps row) l d b, cell_in (above_in ps row) (above_in qs l) d c);
        nested = h.nested row l l1 l2 a b;
      }

  -- the sums of a whole row
  pub row_low : (alike_row work ps qs row ≤ 17179869184) × (triplets_apart_row work ps qs row ≤ 17179869184)
  unfolding alike_row triplets_apart_row
  row_low = (
    omega (
      arith,
      sum_most (length qs - 2) 16777216 _ (λ l m.
          alike_most _ _ _ _ (h.nested row (l + 1) l1 l2 (omega arith) (omega arith))),
      mul-le-mul_right 16777216 few,
    ),
    omega (
      arith,
      sum_most (length qs - 2) 16777216 _ (λ l m.
          apart_most _ _ _ _ (h.nested row (l + 1) l1 l2 (omega arith) (omega arith))),
      mul-le-mul_right 16777216 few,
    ),
  )
    where
      few : length qs - 2 ≤ node_room
      few = omega (arith, h.second.few)

  module _ (columns above : List ℕ) (k : ℕ) (s : AllListed work qs k columns above) where
    pub row_cells : RowCells work (row * (length qs - 1)) (above_in ps row * (length qs - 1)) columns above k
    row_cells = record {
      few = omega (arith, s.few, h.second.few);
      long = (omega (arith, s.few, s.columns_long), omega (arith, s.few, s.above_long));
      four = λ q m. let a = s.places q m in rw a.parent (four_cells _ a.later a.column);
    }

    -- .. with the parent's row as it is found
    pub row_cells_at : (up : ℕ) → up ≡ above_in ps row * (length qs - 1)
        → RowCells work (row * (length qs - 1)) up columns above k
    row_cells_at up e = rw e row_cells

    -- a column that is not listed adds nothing
    only_wide : (f : ℕ → ℕ) → ((l : ℕ) → l < length qs - 2 → word work (l + 1) < 2 → f l ≡ 0)
        → sum (length qs - 2) (λ l. is_wide work (l + 1) * f l) ≡ sum (length qs - 2) f
    only_wide f z = sum_ext (length qs - 2) _ _ (λ l m. elim (dec_lt (word work (l + 1)) 2) [
      | yes d ↦ rw (z l m d) (omega arith)
      | no d ↦ omega (arith, ap (λ (x : ℕ). x * f l) (wide l (omega (arith, lt_of_not-le d))))
    ])
      where
        wide : (l : ℕ) → 2 ≤ word work (l + 1) → is_wide work (l + 1) ≡ 1
        wide l two = bit-T (leb 2 (word work (l + 1))) ((le_iff 2 (word work (l + 1))).1 two)

    pub alike_all : alike_listed work (row * (length qs - 1)) (above_in ps row * (length qs - 1)) columns above k
        ≡ alike_row work ps qs row
    unfolding alike_listed alike_row
    alike_all =
        s.sums (alike_at work (row * (length qs - 1)) (above_in ps row * (length qs - 1)))
        ∙ only_wide (λ l. alike_cell work ps qs row (l + 1)) (λ l m one.
        alike_column_none work ps qs h row (l + 1) l1 l2 (omega arith) (omega arith) one)

    pub apart-all : apart_listed work (row * (length qs - 1)) (above_in ps row * (length qs - 1)) columns above k
        ≡ triplets_apart_row work ps qs row
    unfolding apart_listed triplets_apart_row
    apart-all =
        s.sums (apart_at work (row * (length qs - 1)) (above_in ps row * (length qs - 1)))
        ∙ only_wide (λ l. apart_cell work ps qs row (l + 1)) (λ l m one.
        apart_column_zero work ps qs h row (l + 1) l1 l2 (omega arith) (omega arith) one)

    pub row_is : (up : ℕ) → up ≡ above_in ps row * (length qs - 1)
        → (alike_listed work (row * (length qs - 1)) up columns above k ≡ alike_row work ps qs row)
        × (apart_listed work (row * (length qs - 1)) up columns above k ≡ triplets_apart_row work ps qs row)
    row_is up e = rw e (alike_all, apart-all)

-- ---- all rows

module _ (work ps qs : List ℕ) (h : CrossedCells work ps qs) where
  -- the sums of the first i rows
  pub rows_low : (i : ℕ) → i ≤ length ps - 2
      → (sum i (λ r. alike_row work ps qs (r + 1)) ≤ 17592186044416)
      × (sum i (λ r. triplets_apart_row work ps qs (r + 1)) ≤ 17592186044416)
  rows_low i l = (
    omega (
      arith,
      sum_most i 17179869184 _ (λ r m. (row_low work ps qs h (r + 1) (omega arith) (omega arith)).0),
      mul-le-mul_right 17179869184 few,
    ),
    omega (
      arith,
      sum_most i 17179869184 _ (λ r m. (row_low work ps qs h (r + 1) (omega arith) (omega arith)).1),
      mul-le-mul_right 17179869184 few,
    ),
  )
    where
      few : i ≤ node_room
      few = omega (arith, h.first.few)

-- ---- room for the lists

pub column_room : (work ps qs columns above : List ℕ) → CrossedCells work ps qs
    → length qs ≤ length columns → length qs ≤ length above → ColumnRoom work qs columns above
column_room work ps qs columns above h ec ea = record {
  parents = h.second;
  inside = omega (arith, h.inside, rows);
  columns_long = ec;
  above_long = ea;
}
  where
    rows : 1 * (length qs - 1) ≤ (length ps - 1) * (length qs - 1)
    rows = mul-le-mul_right (length qs - 1) (omega (arith, h.first.some))
