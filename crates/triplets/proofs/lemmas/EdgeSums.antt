-- What the edges of one tree add, edge by edge, from their sizes in the cells.
-- Assumes nothing.
use Rattle.std.specs.Prelude.{◌≡◌, refl, List, ℕ, zero, suc, ◌+◌, ◌*◌, ◌-◌, ◌≤◌, ◌<◌, length}
use Rattle.std.proofs.Common.{arith}
use Rattle.table_words.specs.Sizes.{node_room}
use Rattle.sums.specs.Sum.{sum}
use Rattle.sums.specs.theorems.SumLaws.{sum_mono, sum_const}
use Rattle.sums.specs.theorems.Products.{product_le}
use Rattle.shapes.specs.theorems.TripletCounts.{edge_term}
use Rattle.tree_check.specs.Table.{word}
use Rattle.tree_pairs.specs.lemmas.EdgeRows.{above_in, row_size}
use Rattle.tree_pairs.proofs.lemmas.EdgeRows.{edge-cells, parent-word}
use Rattle.triplets.specs.lemmas.EdgeSums.{EdgeSizes, SizeCells}

-- ---- the laws of the loop

pub sum-start : (f : ℕ → ℕ) → 0 ≡ sum 0 f
unfolding sum
sum-start f = refl

pub square_low : (s : ℕ) → s ≤ 256 → (s * s ≤ 65536) × (s ≤ s * s)
square_low s l = (omega (arith, product_le 256 256 s s l l), itself s)
  where
    itself : (s : ℕ) → s ≤ s * s
    itself zero = omega arith
    itself (suc s) = omega arith

-- x² − x is x(x − 1)
pub square_less : (s : ℕ) → s * s - s ≡ s * (s - 1)
square_less zero = refl
square_less (suc s) = omega (arith, product s (suc s - 1) (omega arith))
  where
    product : (s z : ℕ) → z ≡ s → suc s * z + suc s ≡ suc s * suc s
    product s z e = rw e (omega arith)

pub edge_term_most : (s p : ℕ) → s ≤ p → p ≤ 256 → edge_term s p ≤ 16777216
unfolding edge_term
edge_term_most s p l m =
    let h = square_low s (omega arith) in
    omega (arith, product_le 65536 256 (s * (s - 1)) (p - s) (omega (arith, h.0, square_less s)) (omega arith))

-- every term is at most b
pub sum_most : (k b : ℕ) (f : ℕ → ℕ) → ((q : ℕ) → q < k → f q ≤ b) → sum k f ≤ k * b
sum_most k b f h = omega (arith, sum_mono k f (λ q. b) h, sum_const k b)

module _ (work : List ℕ) (step : ℕ) (ps : List ℕ) (h : SizeCells work step ps) where
  pub edge_sizes : (i up : ℕ) → i < length ps - 2 → up ≡ word ps (i + 2) - 1 → EdgeSizes work step ps i up
  edge_sizes i up l e =
      let c = edge-cells (length work) step ps h.room i up l e in
      let w = parent-word ps h.room.parents i l in
      record {
        cells = c;
        sizes = (
          rw c.above (h.low (i + 1) (omega arith) (omega arith)),
          h.most up (omega (arith, w.0, w.1)),
        );
        term = rw c.above refl;
      }

  -- the sum over the first i edges
  pub edges_low : (i : ℕ) → i ≤ length ps - 2
      → sum i (λ j. edge_term (row_size work step (j + 1)) (row_size work step (above_in ps (j + 1)))) ≤ 17179869184
  edges_low i l = omega (
    arith,
    sum_most i 16777216 _ (λ j m. at j (omega arith)),
    product_le node_room 16777216 i 16777216 (omega (arith, h.room.parents.few)) (omega arith),
  )
    where
      at : (j : ℕ) → j < length ps - 2
          → edge_term (row_size work step (j + 1)) (row_size work step (above_in ps (j + 1))) ≤ 16777216
      at j m =
          let a = edge_sizes j (word ps (j + 2) - 1) m refl in
          rw a.term at (edge_term_most _ _ a.sizes.0 a.sizes.1)
