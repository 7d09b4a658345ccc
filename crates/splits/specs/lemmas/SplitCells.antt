-- What is counted in the cells: splits by sizes and crossings. Row i is that of edge i + 1; n labels are counted.
-- Assumes nothing.
use Rattle.std.specs.Prelude.{Bool, not, ◌&&◌, ◌||◌, List, ℕ, ◌+◌, ◌*◌, ◌-◌, eqb, leb, length}
use Rattle.sums.specs.Tests.{some}
use Rattle.sums.specs.Counts.{count}
use Rattle.tree_check.specs.Table.{word}
use Rattle.tree_pairs.specs.lemmas.EdgeRows.{above_in, row_size}

-- ---- one tree, with sizes `step` cells apart

-- an edge with s of n labels beyond it is a split
unfoldable pub split_size : ℕ → ℕ → Bool
split_size n s = leb 2 s && leb (s + 2) n

-- .. that the edge above is not: fewer labels lie beyond it
unfoldable pub new_size : ℕ → ℕ → ℕ → Bool
new_size n s above = not (eqb s above) && split_size n s

-- the edges of rows i and k leave one node, and all labels lie beyond the two
unfoldable pub half_row : ℕ → List ℕ → ℕ → List ℕ → ℕ → ℕ → Bool
half_row n work step ps i k =
    eqb (word ps (k + 1)) (word ps (i + 1)) && eqb (row_size work step k + row_size work step i) n

-- the edge of row i is a split, and the first with its label sets
unfoldable pub new_row : ℕ → List ℕ → ℕ → List ℕ → ℕ → Bool
new_row n work step ps i =
    let above = row_size work step (above_in ps i) in
    new_size n (row_size work step i) above && not (eqb above n && some i (half_row n work step ps i))

-- that of row i + 1
abbrev pub new_edge : ℕ → List ℕ → ℕ → List ℕ → ℕ → Bool
new_edge n work step ps i = new_row n work step ps (i + 1)

-- how many edges from edge 2 on are splits, each pair of label sets once
unfoldable pub edge_splits : ℕ → List ℕ → ℕ → List ℕ → ℕ
edge_splits n work step ps = count (length ps - 2) (new_edge n work step ps)

-- ---- two trees, in rows of w cells

-- (some column has the label set of the row that begins at base)
unfoldable pub shared_row : ℕ → List ℕ → ℕ → Bool
shared_row w work base =
    some w (λ j. eqb (word work (base + j)) (word work base) && eqb (word work (base + j)) (word work j))

-- (some column has all the other labels)
unfoldable pub apart_row : ℕ → ℕ → List ℕ → ℕ → Bool
apart_row n w work base = some w (λ j. eqb (word work (base + j)) 0 && eqb (word work base + word work j) n)

-- some column has the two label sets of the row that begins at base
unfoldable pub occurs_row : ℕ → ℕ → List ℕ → ℕ → Bool
occurs_row n w work base = shared_row w work base || (eqb (word work 0) n && apart_row n w work base)

-- row i + 1 is a split of both trees, and the first with its label sets
unfoldable pub common_row : ℕ → List ℕ → ℕ → List ℕ → ℕ → Bool
common_row n work w ps i = new_edge n work w ps i && occurs_row n w work ((i + 1) * w)

-- how many rows from the second on are splits of both trees
unfoldable pub common_rows : ℕ → List ℕ → ℕ → List ℕ → ℕ
common_rows n work w ps = count (length ps - 2) (common_row n work w ps)
