-- Lists of the reference trees, computed from the definitions: what is measured, and each refusal.
-- Assumes nothing.
use Rattle.std.specs.Prelude.{◌≡◌, refl, List, [], ◌∷◌, ◌++◌, ℕ}
use Rattle.sums.specs.Sum.{sum}
use Rattle.sums.specs.Bits.{bit}
use Rattle.sums.specs.Tests.{some, every}
use Rattle.sums.specs.Lists.{in_order}
use Rattle.table_words.specs.Sizes.{inner_label}
use Rattle.table_words.specs.Cutting.{table_length, first_table}
use Rattle.tree_check.specs.Table.{Table, tips, nodes, parents, labels, parent, label}
use Rattle.tree_check.specs.Refusals.{refusal, if_accepted}
use Rattle.tree_check.specs.TreeOrder.{tips_fit, nodes_fit, parent_fits, label_fits, standing, labels_fit, labels_once, is_child, children, misplaced, arrays_order, tree_order}
use Rattle.tree_lists.specs.TreeLists.{trees_of, start_of, tree_at, wrong_tree, edges_at, largest, list_order}
use Rattle.tree_lists.specs.CheckedList.{checked_list}

-- three tips, two tips, and three tips with a pass-through node
abbrev Three : Table
Three = 3 ∷ 4 ∷ 0 ∷ 0 ∷ 1 ∷ 1 ∷ 0 ∷ inner_label ∷ 1 ∷ 2 ∷ []

abbrev Two : Table
Two = 2 ∷ 2 ∷ 0 ∷ 0 ∷ 0 ∷ 1 ∷ []

abbrev Passed : Table
Passed = 3 ∷ 5 ∷ 0 ∷ 0 ∷ 1 ∷ 2 ∷ 2 ∷ 0 ∷ inner_label ∷ inner_label ∷ 1 ∷ 2 ∷ []

abbrev told : List ℕ → List ℕ
told list = let r = checked_list list in r.refusal ∷ r.trees ∷ r.tips ∷ r.edges ∷ r.starts

abbrev Four : List ℕ
Four = Two ++ (Two ++ (Two ++ Two))

abbrev Sixteen : List ℕ
Sixteen = 16 ∷ (Four ++ (Four ++ (Four ++ Four)))

pub lists :
    told (2 ∷ (Three ++ Passed)) ∷ told Sixteen ∷ []
    ≡ (0 ∷ 2 ∷ 3 ∷ 4 ∷ 1 ∷ 11 ∷ 23 ∷ 0 ∷ 0 ∷ 0 ∷ 0 ∷ 0 ∷ 0 ∷ 0 ∷ 0 ∷ 0 ∷ 0 ∷ 0 ∷ 0 ∷ 0 ∷ 0 ∷ [])
    ∷ (0 ∷ 16 ∷ 2 ∷ 1 ∷ 1 ∷ 7 ∷ 13 ∷ 19 ∷ 25 ∷ 31 ∷ 37 ∷ 43 ∷ 49 ∷ 55 ∷ 61 ∷ 67 ∷ 73 ∷ 79 ∷ 85 ∷ 91 ∷ 97 ∷ []) ∷ []
unfolding
    checked_list if_accepted refusal list_order largest edges_at wrong_tree tree_at start_of table_length first_table trees_of in_order
    tree_order arrays_order tips_fit nodes_fit parent_fits label_fits standing labels_fit labels_once is_child children misplaced
    sum bit some every tips nodes parents labels parent label
lists = refl

-- no word, one tree, 17 trees; a tree that is missing, one that is cut short, one of m = 0, another n, a tree that is refused,
-- a word left over
pub refused_lists :
    refusal (list_order []) ∷ refusal (list_order (1 ∷ Two)) ∷ refusal (list_order (17 ∷ Two))
    ∷ refusal (list_order (2 ∷ Two)) ∷ refusal (list_order (2 ∷ (Two ++ (2 ∷ 2 ∷ 0 ∷ 0 ∷ 0 ∷ []))))
    ∷ refusal (list_order (2 ∷ (Two ++ (2 ∷ 0 ∷ [])))) ∷ refusal (list_order (2 ∷ (Two ++ Three)))
    ∷ refusal (list_order (2 ∷ (Two ++ (2 ∷ 2 ∷ 0 ∷ 0 ∷ 1 ∷ 1 ∷ [])))) ∷ refusal (list_order (2 ∷ (Two ++ (Two ++ (0 ∷ []))))) ∷ []
    ≡ 38 ∷ 38 ∷ 38 ∷ 39 ∷ 39 ∷ 39 ∷ 39 ∷ 39 ∷ 39 ∷ []
unfolding
    refusal list_order wrong_tree tree_at start_of table_length first_table trees_of
    tree_order arrays_order tips_fit nodes_fit parent_fits label_fits standing labels_fit labels_once is_child children misplaced
    sum bit some every tips nodes parents labels parent label
refused_lists = refl
