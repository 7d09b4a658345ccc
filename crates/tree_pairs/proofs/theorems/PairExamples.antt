-- The definitions computed on the reference pairs (docs/SPECIFICATION.md, 'The figures K1 to K9', 'Edge cases').
-- Assumes nothing.
use Rattle.std.specs.Prelude.{◌≡◌, refl, [], ◌∷◌}
use Rattle.sums.specs.Sum.{sum}
use Rattle.sums.specs.Bits.{bit}
use Rattle.sums.specs.Tests.{some, every}
use Rattle.shapes.specs.Ancestors.{anc_in, anc}
use Rattle.tree_check.specs.Table.{tips, nodes, parents, labels, parent, label, node_below, node_of, beyond}
use Rattle.tree_check.specs.Refusals.{refusal}
use Rattle.tree_check.specs.TreeOrder.{tips_fit, nodes_fit, parent_fits, label_fits, standing, labels_fit, labels_once}
use Rattle.tree_check.specs.TreeOrder.{is_child, children, misplaced, arrays_order, tree_order}
use Rattle.walks.specs.theorems.WalkExamples.{P, Q, TwoTips}
use Rattle.marks.specs.Marks.{is_kept, marks_order}
use Rattle.marks.proofs.theorems.Ones.{ones}
use Rattle.counting.specs.Labels.{all}
use Rattle.counting.specs.Kept.{kept_at, kept}
use Rattle.counting.specs.SplitCounts.{beyond_at}
use Rattle.pair_check.specs.PairOrder.{plus, tips_order, tables_order, work_order, pair_order, cells_needed}
use Rattle.sums.specs.Lists.{in_order}
use Rattle.tree_pairs.specs.Crossings.{edge_crossing, cell_of}

-- for P and Q 41 cells give 9, and 42 are enough; a mark too few or too many and a mark of 2 give 32, before 9; then 8, a
-- refused second table, and a refused first one
pub edges_of_a_pair :
    refusal (pair_order P Q (ones 5) 41) ∷ refusal (pair_order P Q (ones 5) 42)
    ∷ refusal (pair_order P Q (ones 4) 41) ∷ refusal (pair_order P Q (ones 6) 42)
    ∷ refusal (pair_order P Q (0 ∷ 1 ∷ 2 ∷ 1 ∷ 0 ∷ []) 42) ∷ refusal (pair_order P Q (0 ∷ 0 ∷ 0 ∷ 0 ∷ 0 ∷ []) 42)
    ∷ refusal (pair_order P TwoTips [] 42) ∷ refusal (pair_order P [] [] 0) ∷ refusal (pair_order [] [] [] 0) ∷ []
    ≡ 9 ∷ 0 ∷ 32 ∷ 32 ∷ 32 ∷ 0 ∷ 8 ∷ 101 ∷ 1 ∷ []
unfolding
    ones marks_order refusal pair_order tables_order tips_order work_order plus tree_order arrays_order tips_fit nodes_fit parent_fits
    label_fits standing labels_fit labels_once is_child children misplaced sum bit some every tips nodes parents labels parent label
edges_of_a_pair = refl

-- P's edges have {1 2 3 4}, {1}, {2 3 4}, {2}, {3 4}, {3}, {4} beyond them, Q's {1 2 3 4}, {1}, {2 3 4}, {2}, {3},
-- {4}
pub crossings_of_P_and_Q :
    in_order (cells_needed P Q) (cell_of (all 5) P Q)
    ≡ 4 ∷ 1 ∷ 3 ∷ 1 ∷ 1 ∷ 1
    ∷ 1 ∷ 1 ∷ 0 ∷ 0 ∷ 0 ∷ 0
    ∷ 3 ∷ 0 ∷ 3 ∷ 1 ∷ 1 ∷ 1
    ∷ 1 ∷ 0 ∷ 1 ∷ 1 ∷ 0 ∷ 0
    ∷ 2 ∷ 0 ∷ 2 ∷ 0 ∷ 1 ∷ 1
    ∷ 1 ∷ 0 ∷ 1 ∷ 0 ∷ 1 ∷ 0
    ∷ 1 ∷ 0 ∷ 1 ∷ 0 ∷ 0 ∷ 1 ∷ []
unfolding
    in_order cell_of edge_crossing beyond_at sum bit anc_in anc tips nodes parents labels parent label node_below node_of beyond
crossings_of_P_and_Q = refl

-- with 0 and 3 struck, label 1, 2 and 4 are left: each cell has those of them beyond both edges
pub crossings_of_kept-labels :
    in_order (cells_needed P Q) (cell_of (kept (0 ∷ 1 ∷ 1 ∷ 0 ∷ 1 ∷ []) 5) P Q)
    ≡ 3 ∷ 1 ∷ 2 ∷ 1 ∷ 0 ∷ 1
    ∷ 1 ∷ 1 ∷ 0 ∷ 0 ∷ 0 ∷ 0
    ∷ 2 ∷ 0 ∷ 2 ∷ 1 ∷ 0 ∷ 1
    ∷ 1 ∷ 0 ∷ 1 ∷ 1 ∷ 0 ∷ 0
    ∷ 1 ∷ 0 ∷ 1 ∷ 0 ∷ 0 ∷ 1
    ∷ 0 ∷ 0 ∷ 0 ∷ 0 ∷ 0 ∷ 0
    ∷ 1 ∷ 0 ∷ 1 ∷ 0 ∷ 0 ∷ 1 ∷ []
unfolding
    is_kept kept_at in_order cell_of edge_crossing beyond_at sum bit anc_in anc tips nodes parents labels parent label node_below node_of
    beyond
crossings_of_kept-labels = refl
