-- The definitions computed on files: P and Q, and edge cases (docs/SPECIFICATION.md, 'Edge cases').
-- Assumes nothing.
use Rattle.std.specs.Prelude.{◌≡◌, refl, List, [], ◌∷◌, ◌++◌, ℕ, take}
use Rattle.sums.specs.Sum.{sum}
use Rattle.sums.specs.Bits.{bit}
use Rattle.sums.specs.Tests.{some, every}
use Rattle.sums.specs.SetsOfFour.{sets2, sets3, sets4}
use Rattle.shapes.specs.Ancestors.{anc_in, anc}
use Rattle.shapes.specs.Directions.{edge, rising, head, behind}
use Rattle.shapes.specs.Quartets.{parts, parted}
use Rattle.shapes.specs.Claims.{sum_if, meet, sum_claims_of, sum_claims, choose2}
use Rattle.shapes.specs.Triplets.{last_below, lowest, resolved}
use Rattle.shapes.specs.Splits.{is_split, same_sides, occurs, is_new_split, splits_of, common_of}
use Rattle.tree_check.specs.Table.{tips, nodes, parents, labels, parent, label, node_below, node_of, beyond}
use Rattle.tree_check.specs.Refusals.{refusal, if_accepted}
use Rattle.tree_check.specs.TreeOrder.{tips_fit, nodes_fit, parent_fits, label_fits, standing, labels_fit, labels_once}
use Rattle.tree_check.specs.TreeOrder.{is_child, children, misplaced, arrays_order, tree_order}
use Rattle.trees.specs.Topology.{butterfly, partner, named, topology}
use Rattle.counting.specs.ClaimSums.{codes, behind_edge, size, crossing, S, S2, S3}
use Rattle.counting.specs.Cases.{case_of, is_case, topology_at, quartets}
use Rattle.counting.specs.SplitCounts.{beyond_at, splits, common_splits, robinson_foulds}
use Rattle.counting.specs.Triplets.{together, triplet, triplets}
use Rattle.pair_check.specs.PairOrder.{plus, tips_order, tables_order, work_order, cells_order}
use Rattle.table_words.specs.Cutting.{table_length, first_table, later_words}
use Rattle.pair_file.specs.PairFile.{file_words, words_order, file_order}
use Rattle.pair_file.specs.PairFile.{comparison}
use Rattle.listings.specs.theorems.ListingExamples.{of_p_and_q}

-- the bytes of P, and of Q
abbrev bytes_of_p : List ℕ
bytes_of_p =
    5 ∷ 0 ∷ 8 ∷ 0
    ∷ 0 ∷ 0 ∷ 0 ∷ 0 ∷ 1 ∷ 0 ∷ 1 ∷ 0 ∷ 3 ∷ 0 ∷ 3 ∷ 0 ∷ 5 ∷ 0 ∷ 5 ∷ 0
    ∷ 0 ∷ 0 ∷ 255 ∷ 255 ∷ 1 ∷ 0 ∷ 255 ∷ 255 ∷ 2 ∷ 0 ∷ 255 ∷ 255 ∷ 3 ∷ 0 ∷ 4 ∷ 0
    ∷ []

abbrev bytes_of_q : List ℕ
bytes_of_q =
    5 ∷ 0 ∷ 7 ∷ 0
    ∷ 0 ∷ 0 ∷ 0 ∷ 0 ∷ 1 ∷ 0 ∷ 1 ∷ 0 ∷ 3 ∷ 0 ∷ 3 ∷ 0 ∷ 3 ∷ 0
    ∷ 0 ∷ 0 ∷ 255 ∷ 255 ∷ 1 ∷ 0 ∷ 255 ∷ 255 ∷ 2 ∷ 0 ∷ 3 ∷ 0 ∷ 4 ∷ 0
    ∷ []

-- the figures of the bytes of P, then Q
pub comparison_of_P_and_Q : comparison (bytes_of_p ++ bytes_of_q) ≡ of_p_and_q
unfolding
    comparison file_order words_order file_words first_table later_words table_length refusal if_accepted
    cells_order tables_order tips_order work_order plus tree_order arrays_order tips_fit nodes_fit parent_fits label_fits standing labels_fit labels_once
    is_child children misplaced
    S S2 S3 codes behind_edge size crossing sum_claims sum_claims_of sum_if meet choose2 quartets topology_at is_case
    case_of beyond_at splits common_splits robinson_foulds splits_of common_of is_new_split is_split same_sides occurs
    triplets triplet together resolved lowest last_below
    topology named partner butterfly parts parted sets2 sets3 sets4 sum bit some every
    anc_in anc edge rising head behind tips nodes parents labels parent label node_below node_of beyond
comparison_of_P_and_Q = refl

-- no byte, one byte, P without its last word, P alone, P and Q and one word more
pub edges_of_a_file :
    refusal (file_order [])
    ∷ refusal (file_order (5 ∷ []))
    ∷ refusal (file_order (take 34 bytes_of_p))
    ∷ refusal (file_order bytes_of_p)
    ∷ refusal (file_order (bytes_of_p ++ (bytes_of_q ++ (0 ∷ 0 ∷ []))))
    ∷ []
    ≡ 1 ∷ 15 ∷ 4 ∷ 101 ∷ 104 ∷ []
unfolding
    file_order words_order file_words first_table later_words table_length refusal
    cells_order tables_order tips_order work_order plus tree_order arrays_order tips_fit nodes_fit parent_fits label_fits standing labels_fit labels_once
    is_child children misplaced sum bit some every tips nodes parents labels parent label
edges_of_a_file = refl
