-- The crossings of the codes into two nodes, read off the crossings of edges.
-- Assumes nothing.
use Rattle.std.specs.Prelude.{◌≡◌, List, length}
use Prim.Native.Nat.{ℕ, zero, suc, ◌+◌, ◌*◌, ◌-◌, ◌≤◌, ◌<◌}
use Rattle.std.proofs.Common.{mul-le-mul_right, arith}
use Rattle.table_words.specs.Sizes.{node_room, tips_most}
use Rattle.table_words.specs.lemmas.Rooms.{work_room}
use Rattle.sums.specs.theorems.Products.{product_le}
use Rattle.tree_check.specs.Table.{word}

-- In rows of w cells, edge r of the first tree and edge c of the second (counted from 0) meet in cell r * w + c. The
-- first cell of a row and the first row are the sizes. `base` is where a row begins; c gives the second node's edges,
-- its own first.

-- the row of a child's edge, which points to the node: what lies beyond it is behind the code
unfoldable pub child_cell : List ℕ → ℕ → (ℕ → ℕ) → ℕ → ℕ
child_cell work base c zero = word work base - word work (base + c 0)
child_cell work base c (suc j) = word work (base + c (suc j))

-- the row of the node's own edge: what does not lie beyond it is behind the code
unfoldable pub own_cell : List ℕ → ℕ → ℕ → (ℕ → ℕ) → ℕ → ℕ
own_cell work base n c zero = n + word work (base + c 0) - word work base - word work (c 0)
own_cell work base n c (suc j) = word work (c (suc j)) - word work (base + c (suc j))

-- the crossing of the i-th code into a node with the j-th into another, where r and c give the edges of these codes
unfoldable pub code_cell : List ℕ → ℕ → ℕ → (ℕ → ℕ) → (ℕ → ℕ) → ℕ → ℕ → ℕ
code_cell work w n r c zero j = own_cell work (r 0 * w) n c j
code_cell work w n r c (suc i) j = child_cell work (r (suc i) * w) c j

-- ---- the cells of a row, as the code finds them

module _ (work : List ℕ) (base : ℕ) (c : ℕ → ℕ) where
  pub child_first : (v : ℕ) → v ≡ word work base - word work (base + c 0) → v ≡ child_cell work base c 0
  unfolding child_cell
  child_first v e = e

  pub child_later : (j v : ℕ) → 1 ≤ j → v ≡ word work (base + c j) → v ≡ child_cell work base c j
  unfolding child_cell
  child_later zero v l e = absurd (omega arith)
  child_later (suc j) v l e = e

  pub own_first : (n v : ℕ) → v ≡ n + word work (base + c 0) - word work base - word work (c 0)
      → v ≡ own_cell work base n c 0
  unfolding own_cell
  own_first n v e = e

  pub own_later : (n j v : ℕ) → 1 ≤ j → v ≡ word work (c j) - word work (base + c j) → v ≡ own_cell work base n c j
  unfolding own_cell
  own_later n zero v l e = absurd (omega arith)
  own_later n (suc j) v l e = e

-- ---- what the code asks of the cells

-- a cell is no more than the sizes of its row and of its column
pub record CellRoom (work : List ℕ) (base c : ℕ) : Type 0 where
  pub inside : base + c < length work
  pub low : base ≤ work_room
  pub narrow : c ≤ node_room
  pub in_row : word work (base + c) ≤ word work base
  pub in_column : word work (base + c) ≤ word work c
  pub row_most : word work base ≤ tips_most
  pub column_most : word work c ≤ tips_most

-- `rows` rows of w crossings, of n labels
pub record Crossed (work : List ℕ) (rows w n : ℕ) : Type 0 where
  pub rows_few : rows ≤ node_room
  pub narrow : w ≤ node_room
  pub inside : rows * w ≤ length work
  pub labels_few : n ≤ tips_most
  pub in_row : (r c : ℕ) → r < rows → c < w → word work (r * w + c) ≤ word work (r * w)
  pub in_column : (r c : ℕ) → r < rows → c < w → word work (r * w + c) ≤ word work c
  pub row_most : (r : ℕ) → r < rows → word work (r * w) ≤ n
  pub column_most : (c : ℕ) → c < w → word work c ≤ n
  pub neither : (r c : ℕ) → r < rows → c < w → word work (r * w) + word work c ≤ n + word work (r * w + c)

-- the first cell of row r
pub row_start_lem : (work : List ℕ) (rows w n : ℕ) → Crossed work rows w n → (r : ℕ) → r < rows → 1 ≤ w
    → (r * w < length work) × (r * w ≤ work_room)
row_start_lem work rows w n h r lr some = (
  omega (arith, ends, h.inside),
  omega (arith, product_le node_room node_room r w (omega (arith, h.rows_few)) h.narrow),
)
  where
    ends : (r + 1) * w ≤ rows * w
    ends = mul-le-mul_right w (omega arith)

pub cell_room : (work : List ℕ) (rows w n : ℕ) → Crossed work rows w n → (r c : ℕ) → r < rows → c < w
    → CellRoom work (r * w) c
cell_room work rows w n h r c lr lc = record {
  inside = omega (arith, ends, h.inside);
  low = omega (arith, product_le node_room node_room r w (omega (arith, h.rows_few)) h.narrow);
  narrow = omega (arith, h.narrow);
  in_row = h.in_row r c lr lc;
  in_column = h.in_column r c lr lc;
  row_most = omega (arith, h.row_most r lr, h.labels_few);
  column_most = omega (arith, h.column_most c lc, h.labels_few);
}
  where
    ends : (r + 1) * w ≤ rows * w
    ends = mul-le-mul_right w (omega arith)
