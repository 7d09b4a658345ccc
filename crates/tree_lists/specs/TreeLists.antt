-- A list of tree tables: its words cut into tables, and the order of its refusals (docs/SPECIFICATION.md, 'Lists of trees').
-- Assumes nothing.
use Rattle.std.specs.Prelude.{Bool, not, ◌&&◌, ◌||◌, List, [], ◌∷◌, ℕ, zero, suc, ◌+◌, ◌-◌, max, eqb, ltb, leb, length, drop}
use Rattle.sums.specs.Tests.{some}
use Rattle.table_words.specs.Cutting.{table_length, first_table}
use Rattle.tree_check.specs.Table.{Table, word, tips, nodes}
use Rattle.tree_check.specs.Refusals.{Rule, refusal}
use Rattle.tree_check.specs.TreeOrder.{tree_order}

-- the most trees of a list
abbrev pub trees_most : ℕ
trees_most = 16

-- word 0: how many trees there are
unfoldable pub trees_of : List ℕ → ℕ
trees_of list = word list 0

-- where tree i starts: end to end from word 1 on, each as long as its own word 1 says, or with all words that remain
unfoldable pub start_of : List ℕ → ℕ → ℕ
start_of list zero = 1
start_of list (suc i) = start_of list i + table_length (drop (start_of list i) list)

-- the table of tree i
unfoldable pub tree_at : List ℕ → ℕ → Table
tree_at list i = first_table (drop (start_of list i) list)

-- tree i is refused, or its n is not this one
unfoldable pub wrong_tree : List ℕ → ℕ → ℕ → Bool
wrong_tree list n i = not (eqb (refusal (tree_order (tree_at list i))) 0) || not (eqb (tips (tree_at list i)) n)

unfoldable pub edges_at : List ℕ → ℕ → ℕ
edges_at list i = nodes (tree_at list i) - 1

-- the largest of f 0, .., f (k − 1)
unfoldable pub largest : ℕ → (ℕ → ℕ) → ℕ
largest zero f = 0
largest (suc k) f = max (largest k f) (f k)

-- 38: there is no word 0, or it is not 2 to 16. 39: a tree is refused, or the n differ; words are left over
unfoldable pub list_order : List ℕ → List Rule
list_order list =
    (38, not (leb 2 (trees_of list) && leb (trees_of list) trees_most))
    ∷ (39, some (trees_of list) (wrong_tree list (tips (tree_at list 0))))
    ∷ (39, ltb (start_of list (trees_of list)) (length list))
    ∷ []
