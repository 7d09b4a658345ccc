-- What the work cells hold, cell by cell.
-- Assumes nothing.
use Rattle.std.specs.Prelude.{◌≡◌, List, ℕ, suc, ◌+◌, ◌*◌, ◌-◌, ◌/◌, ◌%◌, ◌≤◌, ◌<◌, length}
use Rattle.std.proofs.Common.{◌∙◌, ap, add_comm, mod-eq_of_lt, div-lt_iff_lt-mul, arith}
use Rattle.std.proofs.Math.Path.{ap₂}
use Rattle.std.proofs.Math.Nat.{mul-add-div_right, div-eq_of_lt, add-mul-mod_self_right}
use Rattle.sums.specs.theorems.ListLaws.{in_front-length, in_front_at}
use Rattle.tree_check.specs.Table.{Table, word, nodes}
use Rattle.counting.specs.Labels.{Labels}
use Rattle.pair_check.specs.PairOrder.{cells_needed}
use Rattle.tree_pairs.specs.Crossings.{edge_crossing, cell_of, crossed}

-- ---- row i and column j of rows of w cells

quotient : (i j w : ℕ) → j < w → (i * w + j) / w ≡ i
quotient i j w l = mul-add-div_right (positive l) i j ∙ omega (arith, div-eq_of_lt l)
  where
    positive : j < w → 0 < w
    positive l = omega arith

remainder : (i j w : ℕ) → j < w → (i * w + j) % w ≡ j
remainder i j w l =
    ap (λ (x : ℕ). x % w) (add_comm (i * w) j) ∙ add-mul-mod_self_right j i w ∙ mod-eq_of_lt l

pub cell_inside : (i j m w : ℕ) → i < m → j < w → i * w + j < m * w
cell_inside i j m w li lj =
    (div-lt_iff_lt-mul {k = w} {x = i * w + j} {y = m} (omega arith)).0 (rw (quotient i j w lj) li)

-- as many cells as before
pub crossed-length : (l : Labels) (t u : Table) (work : List ℕ) → cells_needed t u ≤ length work
    → length (crossed l t u work) ≡ length work
unfolding crossed
crossed-length l t u work m = in_front-length (cells_needed t u) (cell_of l t u) work m

-- ---- what a reader finds in the cells

module _ (l : Labels) (t u : Table) (work : List ℕ) where
  pub cell_of_edges : (i j : ℕ) → i < nodes t - 1 → j < nodes u - 1
      → word (crossed l t u work) (i * (nodes u - 1) + j) ≡ edge_crossing l t u (suc i) (suc j)
  unfolding crossed cell_of
  cell_of_edges i j li lj =
      let w = nodes u - 1 in
      let c = i * w + j in
      in_front_at (cells_needed t u) (cell_of l t u) _ c (cell_inside i j (nodes t - 1) w li lj)
      ∙ ap₂ (λ (a b : ℕ). edge_crossing l t u (suc a) (suc b)) (quotient i j w lj) (remainder i j w lj)
