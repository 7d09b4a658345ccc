-- What a row adds, from the listed columns; and the bounds that keep the sums in 64 bits.
-- Assumes nothing.
use Rattle.std.specs.Prelude.{List, ℕ, ◌+◌, ◌≤◌, ◌<◌}
use Rattle.std.proofs.Math.ListN.{length}
use Rattle.table_words.specs.Sizes.{node_room}
use Rattle.table_words.specs.lemmas.Rooms.{work_room}
use Rattle.sums.specs.Sum.{sum}
use Rattle.shapes.specs.theorems.TripletCounts.{alike_term, apart_term}
use Rattle.tree_check.specs.Table.{word}
use Rattle.triplets.specs.lemmas.PairCells.{Nested}

abbrev pub alike_at : List ℕ → ℕ → ℕ → ℕ → ℕ → ℕ
alike_at work base up l p =
    alike_term (word work (base + l)) (word work (base + p)) (word work (up + l)) (word work (up + p))

abbrev pub apart_at : List ℕ → ℕ → ℕ → ℕ → ℕ → ℕ
apart_at work base up l p = apart_term (word work (base + l)) (word work (base + p)) (word work (up + l))

unfoldable pub alike_listed : List ℕ → ℕ → ℕ → List ℕ → List ℕ → ℕ → ℕ
alike_listed work base up columns above k = sum k (λ q. alike_at work base up (word columns q) (word above q))

unfoldable pub apart_listed : List ℕ → ℕ → ℕ → List ℕ → List ℕ → ℕ → ℕ
apart_listed work base up columns above k = sum k (λ q. apart_at work base up (word columns q) (word above q))

-- the four cells of two edges
pub record FourCells (work : List ℕ) (base up l p : ℕ) : Type 0 where
  pub low : (base ≤ work_room) × (up ≤ work_room) × (l ≤ node_room) × (p ≤ node_room)
  pub inside : (base + l < length work) × (base + p < length work) × (up + l < length work) × (up + p < length work)
  pub nested : Nested (word work (base + l)) (word work (base + p)) (word work (up + l)) (word work (up + p))

pub record RowCells (work : List ℕ) (base up : ℕ) (columns above : List ℕ) (k : ℕ) : Type 0 where
  pub few : k ≤ node_room
  pub long : (k ≤ length columns) × (k ≤ length above)
  pub four : (q : ℕ) → q < k → FourCells work base up (word columns q) (word above q)
