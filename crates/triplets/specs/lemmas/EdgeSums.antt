-- What the edges of one tree add, edge by edge, from their sizes in the cells.
-- Assumes nothing.
use Rattle.std.specs.Prelude.{◌≡◌, List, ℕ, ◌+◌, ◌-◌, ◌≤◌, ◌<◌, length}
use Rattle.sums.specs.Sum.{sum}
use Rattle.shapes.specs.theorems.TripletCounts.{edge_term}
use Rattle.tree_pairs.specs.lemmas.EdgeRows.{above_in, EdgeRoom, EdgeCells, row_size}

-- the sizes are `step` cells apart, and none is above its parent's
pub record SizeCells (work : List ℕ) (step : ℕ) (ps : List ℕ) : Type 0 where
  pub room : EdgeRoom (length work) step ps
  pub low : (i : ℕ) → 1 ≤ i → i < length ps - 1 → row_size work step i ≤ row_size work step (above_in ps i)
  pub most : (i : ℕ) → i < length ps - 1 → row_size work step i ≤ 256

-- what all edges from edge 2 on add
unfoldable pub edge_sum : List ℕ → ℕ → List ℕ → ℕ
edge_sum work step ps =
    sum (length ps - 2) (λ i. edge_term (row_size work step (i + 1)) (row_size work step (above_in ps (i + 1))))

-- the sizes of an edge and of its parent's, which is in row `up`
pub record EdgeSizes (work : List ℕ) (step : ℕ) (ps : List ℕ) (i up : ℕ) : Type 0 where
  pub cells : EdgeCells (length work) step ps i up
  pub sizes : (row_size work step (i + 1) ≤ row_size work step up) × (row_size work step up ≤ 256)
  pub term : edge_term (row_size work step (i + 1)) (row_size work step up)
      ≡ edge_term (row_size work step (i + 1)) (row_size work step (above_in ps (i + 1)))
