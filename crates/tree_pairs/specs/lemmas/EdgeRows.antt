-- Edges by rows and columns: the row of the edge above, and sizes in the cells. Row i is that of edge i + 1.
-- Assumes nothing.
use Rattle.std.specs.Prelude.{◌≡◌, List, ℕ, ◌+◌, ◌*◌, ◌-◌, ◌≤◌, ◌<◌, length}
use Rattle.table_words.specs.Sizes.{node_room}
use Rattle.table_words.specs.lemmas.Rooms.{work_room}
use Rattle.tree_check.specs.Table.{word, parents}

-- the row of the parent's edge, or the column
abbrev pub above_in : List ℕ → ℕ → ℕ
above_in ps i = word ps (i + 1) - 1

-- the parents of the edges from edge 2 on are earlier edges
pub record EarlierParents (ps : List ℕ) : Type 0 where
  pub some : 2 ≤ length ps
  pub few : length ps ≤ node_room
  pub earlier : (i : ℕ) → 1 ≤ i → i < length ps - 1 → (1 ≤ word ps (i + 1)) × (word ps (i + 1) ≤ i)

-- the size of the edge of row i, with `step` cells from one size to the next
abbrev pub row_size : List ℕ → ℕ → ℕ → ℕ
row_size work step i = word work (i * step)

-- `cells` cells hold the sizes of the edges, `step` cells apart
pub record EdgeRoom (cells step : ℕ) (ps : List ℕ) : Type 0 where
  pub parents : EarlierParents ps
  pub narrow : step ≤ node_room
  pub inside : (i : ℕ) → i < length ps - 1 → i * step < cells

-- row i + 1 and that of the edge above, `up`, begin where there are cells
pub record EdgeCells (cells step : ℕ) (ps : List ℕ) (i up : ℕ) : Type 0 where
  pub low : ((i + 1) * step ≤ work_room) × (up * step ≤ work_room)
  pub inside : ((i + 1) * step < cells) × (up * step < cells)
  pub above : up ≡ above_in ps (i + 1)
