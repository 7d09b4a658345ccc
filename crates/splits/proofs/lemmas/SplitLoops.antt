-- Splits counted in cells, row by row and column by column.
-- Assumes nothing.
use Rattle.std.specs.Prelude.{◌≡◌, refl, Bool, true, false, not, ◌&&◌, ◌≢◌, List, ℕ, ◌+◌, ◌*◌, ◌-◌, ◌≤◌, ◌<◌, eqb, length}
use Rattle.std.proofs.Common.{sym, ◌∙◌, mul-le-mul_right, arith, eq-eqb, ne_eqb}
use Rattle.std.proofs.Math.Decide.{ℕ_discrete}
use Rattle.table_words.specs.Sizes.{node_room}
use Rattle.sums.specs.Tests.{some}
use Rattle.sums.specs.Counts.{count}
use Rattle.sums.specs.theorems.CountSteps.{count_found, count-not_found}
use Rattle.sums.specs.theorems.Products.{product_le}
use Rattle.tree_pairs.specs.lemmas.EdgeRows.{EdgeRoom, above_in, row_size}
use Rattle.splits.specs.lemmas.SplitCells.{new_size, half_row, new_row, new_edge}
use Rattle.splits.specs.lemmas.SplitLoops.{RowsRoom, SplitRowRoom}

-- ---- room

pub row_room : (cells width : ℕ) (ps : List ℕ) → EdgeRoom cells width ps → RowsRoom cells width ps → (i : ℕ)
    → i < length ps - 2 → SplitRowRoom cells ((i + 1) * width) width
row_room cells width ps a b i l = record {
  low = omega (arith, product_le node_room node_room (i + 1) width (omega (arith, a.parents.few)) a.narrow);
  narrow = a.narrow;
  inside = omega (arith, b.rows, ends);
}
  where
    ends : (i + 1 + 1) * width ≤ (length ps - 1) * width
    ends = mul-le-mul_right width (omega arith)

-- ---- some index passes exactly if the count is not 0

pub some_counted : (k : ℕ) (q : ℕ → Bool) (total : ℕ) → total ≡ count k q → not (eqb total 0) ≡ some k q
some_counted k q total h = elim (ℕ_discrete total 0) [
  | yes e ↦ rw (eq-eqb total 0 e) (count-not_found k q total h e)
  | no d ↦ rw (ne_eqb total 0 d) (count_found k q total h d)
]

-- ---- `new_edge`, test by test: `new` by the sizes, with `above` labels beyond the edge above

module _ (n : ℕ) (work : List ℕ) (step : ℕ) (ps : List ℕ) (i up : ℕ) (new : Bool) (e : up ≡ above_in ps (i + 1))
    (q : new ≡ new_size n (row_size work step (i + 1)) (row_size work step up)) where
  tested : new_edge n work step ps i
      ≡ (new && not (eqb (row_size work step up) n && some (i + 1) (half_row n work step ps (i + 1))))
  unfolding new_row
  tested = rw (q, e)

  pub not_new : new ≡ false → false ≡ new_edge n work step ps i
  not_new d = sym (tested ∙ rw d refl)

  pub new_without_half : (above : ℕ) → new ≡ true → above ≡ row_size work step up → above ≢ n
      → true ≡ new_edge n work step ps i
  new_without_half above d r z = sym (tested ∙ rw (d, ne_eqb (row_size work step up) n (λ w. z (r ∙ w))) refl)

  pub new_by_half : (above : ℕ) (half : Bool) → new ≡ true → above ≡ row_size work step up → above ≡ n
      → half ≡ some (i + 1) (half_row n work step ps (i + 1)) → not half ≡ new_edge n work step ps i
  new_by_half above half d r z h = sym (tested ∙ rw (d, eq-eqb (row_size work step up) n (sym r ∙ z), h) refl)
