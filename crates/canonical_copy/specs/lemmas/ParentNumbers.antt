-- For each node the number of the next node above that stays.
-- Assumes nothing.
use Rattle.std.specs.Prelude.{◌≡◌, List, ℕ, ◌<◌, eqb, length}
use Rattle.std.proofs.Math.Bool.{true, false}
use Rattle.table_words.specs.Sizes.{node_room}
use Rattle.tree_check.specs.Table.{word}

-- the parent's number if it stays, else what the parent has
unfoldable pub above_of : List ℕ → List ℕ → List ℕ → List ℕ → ℕ → ℕ
above_of ps bits numbers above v =
    elim (eqb (word bits (word ps v)) 1) [ true ↦ word numbers (word ps v) | false ↦ word above (word ps v) ]

-- so it is for the nodes below i
pub record ParentNumbers (ps bits numbers : List ℕ) (i : ℕ) (above : List ℕ) : Type 0 where
  pub long : length above ≡ node_room
  pub above_is : (v : ℕ) → v < i → word above v ≡ above_of ps bits numbers above v
