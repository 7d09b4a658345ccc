-- What is listed of a tree's parent words: the edges of the codes into node 0, then of those into node 1, and so on.
-- Assumes nothing.
use Rattle.std.specs.Prelude.{Bool, true, false, ◌&&◌, List, ℕ, zero, suc, ◌*◌, ◌-◌, ◌/◌, leb, ltb, length}
use Rattle.table_words.specs.Sizes.{nodes_most}
use Rattle.sums.specs.Sum.{sum}
use Rattle.sums.specs.Bits.{bit}
use Rattle.sums.specs.Tests.{every}
use Rattle.shapes.specs.Directions.{head}
use Rattle.node_pairs.specs.CodesInto.{degree_of, code_at}
use Rattle.tree_check.specs.Table.{word}

-- ---- the codes into each node

-- how many codes there are: two for each edge
abbrev pub codes_of : List ℕ → ℕ
codes_of ps = 2 * (length ps - 1)

-- how many codes lead into v
abbrev pub degree_at : List ℕ → ℕ → ℕ
degree_at ps v = degree_of (codes_of ps) (head (word ps)) v

-- the i-th of them
abbrev pub code_into : List ℕ → ℕ → ℕ → ℕ
code_into ps v i = code_at (codes_of ps) (head (word ps)) v i

-- how many codes lead into the nodes before v
abbrev pub codes_before : List ℕ → ℕ → ℕ
codes_before ps v = sum v (degree_at ps)

-- ---- their lists

-- x if a test is passed, else y
unfoldable pub if_passed : Bool → ℕ → ℕ → ℕ
if_passed true x y = x
if_passed false x y = y

-- 1 to `nodes_most` parent words, each node's parent before it
unfoldable pub parents_fit : List ℕ → Bool
parents_fit ps =
    leb 1 (length ps) && (leb (length ps) nodes_most && every (length ps - 1) (λ i. ltb (word ps (suc i)) (suc i)))

-- such words, and cells for all starts and all edges: nothing is listed of others
unfoldable pub codes_fit : List ℕ → ℕ → ℕ → Bool
codes_fit ps starts edges = parents_fit ps && (ltb (length ps) starts && leb (codes_of ps) edges)

-- the starts: where the codes into node v begin, and at last where those into the last node end; later cells stay
unfoldable pub start_cell : List ℕ → List ℕ → List ℕ → ℕ → ℕ
start_cell ps starts edges v =
    if_passed (codes_fit ps (length starts) (length edges) && leb v (length ps)) (codes_before ps v) (word starts v)

-- of the codes into the nodes before k, the edge of the c-th: code 2j and code 2j + 1 belong to edge j, counted from 0
unfoldable pub edge_at : List ℕ → ℕ → ℕ → ℕ
edge_at ps zero c = 0
edge_at ps (suc v) c = elim (ltb c (codes_before ps v)) [
  | true ↦ edge_at ps v c
  | false ↦ code_into ps v (c - codes_before ps v) / 2
]

-- the edges; later cells stay
unfoldable pub edge_cell : List ℕ → List ℕ → List ℕ → ℕ → ℕ
edge_cell ps starts edges c =
    if_passed (codes_fit ps (length starts) (length edges) && ltb c (codes_before ps (length ps)))
    (edge_at ps (length ps) c) (word edges c)

-- ---- the nodes with three codes or more into them

-- 1 for such a node, 0 for another, by where the codes into the nodes begin
unfoldable pub is_inner : List ℕ → ℕ → ℕ
is_inner starts v = bit (leb 3 (word starts (suc v) - word starts v))

-- how many of them there are before k
abbrev pub inner_count : List ℕ → ℕ → ℕ
inner_count starts k = degree_of k (is_inner starts) 1

-- the i-th of them
abbrev pub inner_at : List ℕ → ℕ → ℕ → ℕ
inner_at starts k i = code_at k (is_inner starts) 1 i

-- how many nodes are looked at: all that there are starts of, and none where fewer cells than starts are lent
unfoldable pub nodes_seen : List ℕ → List ℕ → ℕ
nodes_seen starts old = if_passed (leb (length starts) (length old)) (length starts - 1) 0

-- the nodes; later cells stay
unfoldable pub inner_cell : List ℕ → List ℕ → ℕ → ℕ
inner_cell starts old i =
    let k = nodes_seen starts old in
    if_passed (ltb i (inner_count starts k)) (inner_at starts k i) (word old i)
