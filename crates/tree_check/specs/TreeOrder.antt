-- The rules of a tree table as tests, and the order of a table (docs/SPECIFICATION.md, 'The numbers', 'The orders').
-- Assumes nothing.
use Rattle.std.specs.Prelude.{Bool, true, false, not, ◌&&◌, ◌||◌, List, [], ◌∷◌, ℕ, ◌+◌, ◌*◌, eqb, ltb, leb, length}
use Rattle.table_words.specs.Sizes.{inner_label, tips_most}
use Rattle.sums.specs.Counts.{count}
use Rattle.sums.specs.Tests.{some, every}
use Rattle.tree_check.specs.Table.{Table, tips, nodes, parent, label}
use Rattle.tree_check.specs.Refusals.{Rule}

-- ---- the rules as tests: n tips and m nodes, `up` gives the parent words and `lab` the labels

unfoldable pub tips_fit : ℕ → Bool
tips_fit n = leb 2 n && leb n tips_most

unfoldable pub nodes_fit : ℕ → ℕ → Bool
nodes_fit n m = leb n m && leb m (4 * n)

-- the parent word p of node i: 0 for the nodes 0 and 1, and from node 2 on 1 to i − 1
unfoldable pub parent_fits : ℕ → ℕ → Bool
parent_fits i p = elim (ltb i 2) [ true ↦ eqb p 0 | false ↦ leb 1 p && ltb p i ]

-- the label l: 65535 or below n
unfoldable pub label_fits : ℕ → ℕ → Bool
label_fits n l = eqb l inner_label || ltb l n

-- how many of m nodes have the label x
unfoldable pub standing : ℕ → (ℕ → ℕ) → ℕ → ℕ
standing m lab x = count m (λ i. eqb (lab i) x)

-- node 0's label is 0, and each label is 65535 or below n
unfoldable pub labels_fit : ℕ → ℕ → (ℕ → ℕ) → Bool
labels_fit n m lab = eqb (lab 0) 0 && every m (λ i. label_fits n (lab i))

-- each label below n stands exactly once
unfoldable pub labels_once : ℕ → ℕ → (ℕ → ℕ) → Bool
labels_once n m lab = every n (λ x. eqb (standing m lab x) 1)

-- node j is a child of node i
unfoldable pub is_child : (ℕ → ℕ) → ℕ → ℕ → Bool
is_child up i j = leb 1 j && eqb (up j) i

unfoldable pub children : ℕ → (ℕ → ℕ) → ℕ → ℕ
children m up i = count m (is_child up i)

-- node i, with label l and k children: an inner node without a child, or a tip other than node 0 with one
unfoldable pub misplaced : ℕ → ℕ → ℕ → Bool
misplaced i l k = elim (eqb l inner_label) [ true ↦ ltb k 1 | false ↦ leb 1 i && leb 1 k ]

-- the rules that the two arrays are held to
unfoldable pub arrays_order : ℕ → ℕ → (ℕ → ℕ) → (ℕ → ℕ) → List Rule
arrays_order n m up lab =
    (5, not (every m (λ i. parent_fits i (up i))))
    ∷ (6, not (labels_fit n m lab))
    ∷ (31, not (labels_once n m lab))
    ∷ (7, some m (λ i. misplaced i (lab i) (children m up i)))
    ∷ []

unfoldable pub tree_order : Table → List Rule
tree_order t =
    (1, ltb (length t) 2)
    ∷ (2, not (tips_fit (tips t)))
    ∷ (3, not (nodes_fit (tips t) (nodes t)))
    ∷ (4, not (eqb (length t) (2 + 2 * nodes t)))
    ∷ arrays_order (tips t) (nodes t) (parent t) (label t)
