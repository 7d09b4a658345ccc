-- Lists of the reference trees, computed from the definitions: the tree told, and 9.
-- Assumes nothing.
use Rattle.std.specs.Prelude.{◌≡◌, refl, List, [], ◌∷◌, ◌++◌, ℕ}
use Rattle.sums.specs.Sum.{sum}
use Rattle.sums.specs.Bits.{bit}
use Rattle.sums.specs.Tests.{some, every}
use Rattle.sums.specs.SetsOfFour.{sets2, sets3, sets4}
use Rattle.shapes.specs.Ancestors.{anc_in, anc}
use Rattle.shapes.specs.Quartets.{parts, parted}
use Rattle.table_words.specs.Cutting.{table_length, first_table}
use Rattle.tree_check.specs.Table.{tips, nodes, parents, labels, parent, label, node_below, node_of}
use Rattle.tree_check.specs.Refusals.{refusal, if_accepted}
use Rattle.tree_check.specs.TreeOrder.{tips_fit, nodes_fit, parent_fits, label_fits, standing, labels_fit, labels_once, is_child, children, misplaced, arrays_order, tree_order}
use Rattle.tree_lists.specs.TreeLists.{trees_of, start_of, tree_at, wrong_tree, edges_at, largest, list_order}
use Rattle.trees.specs.Topology.{butterfly, partner, named, topology}
use Rattle.walks.specs.theorems.WalkExamples.{P, Q, R, W, ThreeTips}
use Rattle.counting.specs.Cases.{case_of, is_case, topology_at, quartets}
use Rattle.median_tree.specs.Least.{first_least}
use Rattle.median_tree.specs.Nearest.{distance_of, sum_to, list_cells, nearest_order, nearest_answer}

abbrev told : List ℕ → ℕ → List ℕ
told list cells = let r = nearest_answer list cells in r.refusal ∷ r.position ∷ r.sum ∷ []

-- P is 2 from Q and from R, which are 4 apart; of equals the earliest; with fewer than four tips all are at 0; 49 cells are enough
-- for P against itself, 48 are not, wherever P stands
pub lists_told :
    told (3 ∷ (R ++ (P ++ Q))) 49 ∷ told (2 ∷ (Q ++ P)) 49 ∷ told (2 ∷ (ThreeTips ++ ThreeTips)) 9
    ∷ told (3 ∷ (P ++ (Q ++ W))) 48 ∷ told (2 ∷ (Q ++ P)) 48 ∷ []
    ≡ (0 ∷ 1 ∷ 4 ∷ []) ∷ (0 ∷ 0 ∷ 2 ∷ []) ∷ (0 ∷ 0 ∷ 0 ∷ []) ∷ (9 ∷ 0 ∷ 0 ∷ []) ∷ (9 ∷ 0 ∷ 0 ∷ []) ∷ []
unfolding
    nearest_answer nearest_order if_accepted refusal list_order list_cells largest edges_at wrong_tree tree_at start_of table_length first_table trees_of
    first_least sum_to distance_of
    tree_order arrays_order tips_fit nodes_fit parent_fits label_fits standing labels_fit labels_once is_child children misplaced
    quartets topology_at is_case case_of topology named partner butterfly parts parted sets2 sets3 sets4 sum bit some every
    anc_in anc tips nodes parents labels parent label node_below node_of
lists_told = refl
