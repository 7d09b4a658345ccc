-- Rows of cells, a row for each node but node 0, added up the tree with the parents `ps`.
-- Assumes nothing.
use Rattle.std.specs.Prelude.{◌≡◌, List, ℕ, ◌*◌, ◌-◌, ◌≤◌, ◌<◌, length}
use Rattle.table_words.specs.Sizes.{cell_most, node_room}
use Rattle.shapes.specs.theorems.AncestorLaws.{Rooted}
use Rattle.shapes.specs.theorems.Totals.{total, AddedFrom}
use Rattle.tree_check.specs.Table.{word}
use Rattle.tree_pairs.specs.lemmas.Grid.{cell_at}

-- what the loop asks: a rooted tree where only node 1 hangs from node 0, room for the rows, totals that fit
pub record Room (ps work : List ℕ) (w : ℕ) : Type 0 where
  pub tree : Rooted (word ps)
  pub some : 2 ≤ length ps
  pub few : length ps ≤ node_room
  pub inner : (v : ℕ) → 2 ≤ v → v < length ps → 1 ≤ word ps v
  pub narrow : w ≤ node_room
  pub inside : (length ps - 1) * w ≤ length work
  pub fits : (v j : ℕ) → 1 ≤ v → v < length ps → j < w
      → total (word ps) (length ps) (λ u. cell_at work w u j) v ≤ cell_most

-- what it leaves: in each cell the column's total over the nodes at or below; later words as they were
pub record RowsAdded (ps old new : List ℕ) (w : ℕ) : Type 0 where
  pub long : length new ≡ length old
  pub totals : (v j : ℕ) → 1 ≤ v → v < length ps → j < w
      → cell_at new w v j ≡ total (word ps) (length ps) (λ u. cell_at old w u j) v
  pub tail : (c : ℕ) → (length ps - 1) * w ≤ c → word new c ≡ word old c

-- the rows of the nodes from i on have been added to their parents'
pub record AddingRows (ps old : List ℕ) (w i : ℕ) (new : List ℕ) : Type 0 where
  pub from : 2 ≤ i
  pub to : i ≤ length ps
  pub long : length new ≡ length old
  pub columns : (j : ℕ) → j < w
      → AddedFrom 1 (word ps) (length ps) (λ u. cell_at old w u j) (λ u. cell_at new w u j) i
  pub tail : (c : ℕ) → (length ps - 1) * w ≤ c → word new c ≡ word old c
