-- The walk, and the part of it beyond an edge (docs/SPECIFICATION.md, 'Walk', 'The place of the part beyond an edge' and
-- 'Beyond an edge').
-- Assumes nothing.
use Rattle.std.specs.Prelude.{ℕ, zero, suc, ◌+◌, ◌*◌, Bool, true, false, List, [], ◌∷◌, ◌++◌, length, take, drop, ◌==◌, nat_lt}
use Rattle.sums.specs.Sum.{sum}
use Rattle.sums.specs.Bits.{bit}
use Rattle.sums.specs.Counts.{count}
use Rattle.walks.specs.declared.edges.PartBeyond.{PartBeyond}
use Rattle.tree_check.specs.Table.{Table, tips, nodes, parent, label, beyond}
use Rattle.tree_check.specs.Refusals.{refusal, if_accepted}
use Rattle.tree_check.specs.TreeOrder.{is_child}
use Rattle.walks.specs.WalkOrders.{walk_order, edge_order}

-- the label of a tip; an inner node has none
unfoldable pub own : Table → ℕ → List ℕ
own t v = elim (nat_lt (label t v) (tips t)) [ true ↦ label t v ∷ [] | false ↦ [] ]

-- the lists of those below k that pass the test, in rising order
unfoldable pub in_turn : ℕ → (ℕ → Bool) → (ℕ → List ℕ) → List ℕ
in_turn zero q g = []
in_turn (suc k) q g = in_turn k q g ++ (elim (q k) [ true ↦ g k | false ↦ [] ])

-- the labels depth first from node v, children in rising order of their numbers, at most f levels deep
unfoldable pub visit : Table → ℕ → ℕ → List ℕ
visit t zero v = []
visit t (suc f) v = own t v ++ in_turn (nodes t) (is_child (parent t) v) (λ c. visit t f c)

-- the walk from node v: its own label and those of all nodes below it
unfoldable pub walk_from : Table → ℕ → List ℕ
walk_from t v = visit t (nodes t) v

-- the walk of the tree is that from node 0
unfoldable pub walk : Table → List ℕ
walk t = walk_from t 0

-- the lent cells once the walk is written: the cells from n on stay
unfoldable pub walked : Table → List ℕ → List ℕ
walked t cells = walk t ++ drop (tips t) cells

-- a refusal leaves every lent cell as it was
unfoldable pub after_walk : Table → List ℕ → List ℕ
after_walk t cells = if_accepted (refusal (walk_order t (length cells))) (walked t cells) cells

-- ---- the part of a walk that belongs to an edge

-- how many labels lie beyond edge i
unfoldable pub below : Table → ℕ → ℕ
below t i = count (tips t) (beyond t i)

-- how many labels the walk has before node v's: those before its parent's, the parent's own,
-- and those of the parent's earlier children
unfoldable pub start_in : Table → ℕ → ℕ → ℕ
start_in t zero v = 0
start_in t (suc f) v = elim (v == 0) [
  | true ↦ 0
  | false ↦ start_in t f (parent t v) + length (own t (parent t v))
      + sum v (λ c. bit (is_child (parent t) (parent t v) c) * below t c)
]

unfoldable pub start : Table → ℕ → ℕ
start t v = start_in t v v

-- the number with zeros, or 0 with the place of those labels in a walk of so many cells: the first cell, and how many.
-- No word of a walk plays a part
unfoldable pub place_beyond : Table → ℕ → ℕ → PartBeyond
place_beyond t i cells =
    let number = refusal (edge_order t i cells) in
    record { refusal = number; start = if_accepted number (start t i) 0; count = if_accepted number (below t i) 0 }

-- the part of a lent walk that stands there, whatever words it holds
unfoldable pub part : Table → ℕ → List ℕ → List ℕ
part t i w = take (below t i) (drop (start t i) w)

-- a refusal gives an empty part
unfoldable pub part_beyond : Table → ℕ → List ℕ → List ℕ
part_beyond t i w = if_accepted (refusal (edge_order t i (length w))) (part t i w) []

-- the place of a word, so many words of two bytes after another: a block, and an offset in it
abbrev pub words_on : ℕ → ℕ × ℕ → ℕ × ℕ
words_on k p = (p.0, p.1 + 2 * k)
