-- Cells added up the tree: each node's to its parent's, from the highest node down.
-- Assumes nothing.
use Rattle.std.specs.Prelude.{ℕ, zero, suc, ◌+◌, ◌%◌, ◌^◌, true, false, List, length, nat_lt, slice_set}
use Rattle.table_words.specs.Sizes.{node_room}
use Rattle.tree_check.specs.Table.{word}

-- node i's cell added to its parent's, modulo 2^64; a parent word that is no smaller than i plays no part
unfoldable pub passed_up : List ℕ → ℕ → List ℕ → List ℕ
passed_up ps i cells = elim (nat_lt (word ps i) i) [
  | true ↦ slice_set cells (word ps i) ((word cells (word ps i) + word cells i) % 2 ^ 64)
  | false ↦ cells
]

-- the nodes below i, from the highest down
unfoldable pub added_below : List ℕ → ℕ → List ℕ → List ℕ
added_below ps zero cells = cells
added_below ps (suc i) cells = added_below ps i (passed_up ps i cells)

-- every node; `node_room` cells belong to at most as many nodes, and for more the cells stay
unfoldable pub added_up : List ℕ → List ℕ → List ℕ
added_up ps cells = elim (nat_lt node_room (length ps)) [ true ↦ cells | false ↦ added_below ps (length ps) cells ]
