-- A table: its words, its parts, and which labels lie beyond an edge (docs/SPECIFICATION.md, 'Layout', 'Edges').
-- Assumes nothing.
use Rattle.std.specs.Prelude.{Bool, true, false, List, ℕ, zero, suc, ◌+◌, eqb, get_or, take, drop}
use Rattle.shapes.specs.Ancestors.{anc}

abbrev pub Table : Type 0
Table = List ℕ

-- the word at i, and 0 past the end
abbrev pub word : List ℕ → ℕ → ℕ
word l i = get_or l i 0

-- n, the number of tips
unfoldable pub tips : Table → ℕ
tips t = word t 0

-- m, the number of nodes
unfoldable pub nodes : Table → ℕ
nodes t = word t 1

-- the parent words: m words from word 2 on, one for each node in turn
unfoldable pub parents : Table → List ℕ
parents t = take (nodes t) (drop 2 t)

-- the label words: m words from word 2 + m on, one for each node in turn
unfoldable pub labels : Table → List ℕ
labels t = take (nodes t) (drop (2 + nodes t) t)

unfoldable pub parent : Table → ℕ → ℕ
parent t = word (parents t)

unfoldable pub label : Table → ℕ → ℕ
label t = word (labels t)

-- the last node below k with the label x
unfoldable pub node_below : (ℕ → ℕ) → ℕ → ℕ → ℕ
node_below lab zero x = 0
node_below lab (suc k) x = elim (eqb (lab k) x) [ true ↦ k | false ↦ node_below lab k x ]

-- the node with the label x
unfoldable pub node_of : Table → ℕ → ℕ
node_of t x = node_below (label t) (nodes t) x

-- the label x lies beyond edge i: its tip is on node i's side of the edge, which does not hold tip 0
unfoldable pub beyond : Table → ℕ → ℕ → Bool
beyond t i x = anc (parent t) i (node_of t x)
