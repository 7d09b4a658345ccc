-- What pairs of edges add, from the cells of both and of their parents' edges.
-- Assumes nothing.
use Rattle.std.specs.Prelude.{◌≡◌, List, ℕ, zero, suc, ◌+◌, ◌*◌, ◌-◌, ◌≤◌, ◌<◌, length}
use native.Mathlib.Omega.{arith}
use Rattle.sums.specs.theorems.SumLaws.{sum_none}
use Rattle.sums.specs.theorems.Products.{product_le}
use Rattle.shapes.specs.theorems.TripletCounts.{alike_term, apart_term}
use Rattle.tree_check.specs.Table.{word}
use Rattle.tree_pairs.specs.lemmas.EdgeRows.{above_in}
use Rattle.triplets.proofs.lemmas.EdgeSums.{square_low, square_less}
use Rattle.triplets.specs.lemmas.PairCells.{CrossedCells, Nested, alike_cell, alike_row, apart_cell, triplets_apart_row}

-- ---- four cells: of two edges, of the first and the second's parent, of the first's parent and the second, of both parents

module _ (i r c w : ℕ) (h : Nested i r c w) where
  pub alike_most : alike_term i r c w ≤ 16777216
  unfolding alike_term
  alike_most =
      let l : i ≤ 256 = omega (arith, h.in_row, h.in_column, h.in_whole, h.few) in
      omega (
        arith,
        product_le 65536 256 (i * (i - 1)) (w + i - r - c)
            (omega (arith, (square_low i l).0, square_less i)) (omega (arith, h.in_row, h.in_column, h.few)),
      )

  pub apart_most : apart_term i r c ≤ 16777216
  unfolding apart_term
  apart_most =
      let l : i ≤ 256 = omega (arith, h.in_row, h.in_column, h.in_whole, h.few) in
      omega (
        arith,
        product_le 256 65536 i ((r - i) * (c - i)) l
            (omega (
              arith,
              product_le 256 256 (r - i) (c - i)
                  (omega (arith, h.in_column, h.in_whole, h.few)) (omega (arith, h.in_row, h.in_whole, h.few)),
            )),
      )

-- ---- an edge with one label beyond it adds nothing

-- one label beyond both edges makes no pair, and is all of the row, or of the column
pub alike_none : (i r c w : ℕ) → i ≤ 1 → alike_term i r c w ≡ 0
unfolding alike_term
alike_none zero r c w l = omega arith
alike_none (suc zero) r c w l = omega arith
alike_none (suc (suc i)) r c w l = absurd (omega arith)

pub apart_row_none : (i r c : ℕ) → r ≤ 1 → apart_term i r c ≡ 0
unfolding apart_term
apart_row_none zero r c l = omega arith
apart_row_none (suc i) r c l = rw (none i) (omega arith)
  where
    none : (i : ℕ) → r - suc i ≡ 0
    none i = omega arith

pub apart_column_none : (i r c : ℕ) → c ≤ 1 → apart_term i r c ≡ 0
unfolding apart_term
apart_column_none zero r c l = omega arith
apart_column_none (suc i) r c l = rw (none i) (omega arith)
  where
    none : (i : ℕ) → c - suc i ≡ 0
    none i = omega arith

module _ (work ps qs : List ℕ) (h : CrossedCells work ps qs) where
  up_row : (i : ℕ) → 1 ≤ i → i < length ps - 1 → above_in ps i < length ps - 1
  up_row i l m = let e = h.first.earlier i l m in omega (arith, e.0, e.1)

  up_column : (l : ℕ) → 1 ≤ l → l < length qs - 1 → above_in qs l < length qs - 1
  up_column l m k = let e = h.second.earlier l m k in omega (arith, e.0, e.1)

  -- a row of one label
  module _ (i : ℕ) (li : 1 ≤ i) (ri : i < length ps - 1) (one : word work (i * (length qs - 1)) < 2) where
    pub alike_row_none : alike_row work ps qs i ≡ 0
    unfolding alike_row
    alike_row_none = sum_none (length qs - 2) _ (λ l m.
        alike_none _ _ _ _ (omega (arith, one, h.row_most i (l + 1) ri (omega arith))))

    pub apart_row-zero : triplets_apart_row work ps qs i ≡ 0
    unfolding triplets_apart_row
    apart_row-zero = sum_none (length qs - 2) _ (λ l m.
        apart_row_none _ _ _ (omega (
          arith,
          one,
          h.row_most i (above_in qs (l + 1)) ri (up_column (l + 1) (omega arith) (omega arith)),
        )))

  -- a column of one label
  module _ (i l : ℕ) (li : 1 ≤ i) (ri : i < length ps - 1) (ll : 1 ≤ l) (rl : l < length qs - 1) (one : word work l < 2) where
    pub alike_column_none : alike_cell work ps qs i l ≡ 0
    alike_column_none = alike_none _ _ _ _ (omega (arith, one, h.column_most i l ri rl))

    pub apart_column_zero : apart_cell work ps qs i l ≡ 0
    apart_column_zero =
        apart_column_none _ _ _ (omega (arith, one, h.column_most (above_in ps i) l (up_row i li ri) rl))
