-- The tree of a list that is nearest to all: the order of its call, its answer, and the cells afterwards (docs/SPECIFICATION.md,
-- 'The median tree').
-- Assumes nothing.
use Rattle.std.specs.Prelude.{List, [], ◌∷◌, ◌++◌, ℕ, ◌*◌, ltb, length}
use Rattle.sums.specs.Sum.{sum}
use Rattle.tree_check.specs.Table.{tips}
use Rattle.tree_check.specs.Refusals.{Rule, refusal, if_accepted}
use Rattle.tree_lists.specs.TreeLists.{trees_of, tree_at, edges_at, largest, list_order}
use Rattle.counting.specs.Labels.{all}
use Rattle.counting.specs.Cases.{distance}
use Rattle.pair_check.specs.Clearing.{zeroed}
use Rattle.median_tree.specs.declared.median.NearestAnswer.{NearestAnswer}
use Rattle.median_tree.specs.Least.{first_least}

-- the quartet distance B + C + D of two trees of the list, over all labels
unfoldable pub distance_of : List ℕ → ℕ → ℕ → ℕ
distance_of list i j = distance (all (tips (tree_at list 0))) (tree_at list i) (tree_at list j)

-- the summed distance of tree i to all
unfoldable pub sum_to : List ℕ → ℕ → ℕ
sum_to list i = sum (trees_of list) (distance_of list i)

-- the cells for the largest tree against itself
unfoldable pub list_cells : List ℕ → ℕ
list_cells list = let e = largest (trees_of list) (edges_at list) in e * e

-- the list's order, then 9: there are fewer cells than these
unfoldable pub nearest_order : List ℕ → ℕ → List Rule
nearest_order list cells = list_order list ++ ((9, ltb cells (list_cells list)) ∷ [])

-- the position of the tree with the least sum, of equals the earliest, and that sum
abbrev pub nearest_of : List ℕ → NearestAnswer
nearest_of list =
    let p = first_least (sum_to list) (trees_of list) in record { refusal = 0; position = p; sum = sum_to list p }

-- the number of a refused list, with zeros
abbrev pub refused_nearest : ℕ → NearestAnswer
refused_nearest number = record { refusal = number; position = 0; sum = 0 }

unfoldable pub nearest_answer : List ℕ → ℕ → NearestAnswer
nearest_answer list cells =
    let number = refusal (nearest_order list cells) in if_accepted number (nearest_of list) (refused_nearest number)

-- the cells for the largest tree against itself are zero afterwards, and later ones stay; a refusal leaves every cell as it was
unfoldable pub after_nearest : List ℕ → List ℕ → List ℕ
after_nearest list work = if_accepted (refusal (nearest_order list (length work))) (zeroed (list_cells list) work) work
