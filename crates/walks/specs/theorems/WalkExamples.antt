-- The reference tables (docs/SPECIFICATION.md, 'The reference tables'), and what the check and the walk give on them.
-- Assumes nothing.
use Rattle.std.specs.Prelude.{◌≡◌, ℕ, [], ◌∷◌, ◌++◌, refl}
use Rattle.table_words.specs.Sizes.{inner_label, tips_most}
use Rattle.sums.specs.Sum.{sum}
use Rattle.sums.specs.Bits.{bit}
use Rattle.sums.specs.Tests.{some, every}
use Rattle.shapes.specs.Ancestors.{anc_in, anc}
use Rattle.tree_check.specs.Table.{Table, tips, nodes, parents, labels, parent, label}
use Rattle.tree_check.specs.Table.{node_below, node_of, beyond}
use Rattle.tree_check.specs.Refusals.{refusal}
use Rattle.tree_check.specs.TreeOrder.{tips_fit, nodes_fit, parent_fits, label_fits, standing, labels_fit, labels_once}
use Rattle.tree_check.specs.TreeOrder.{is_child, children, misplaced, arrays_order, tree_order}
use Rattle.walks.specs.WalkOrders.{walk_order, edge_order}
use Rattle.walks.specs.Walk.{own, in_turn, visit, walk_from, walk, below, start_in, start, part}

-- the label word of an inner node
abbrev pub X : ℕ
X = inner_label

abbrev pub P : Table
P = 5 ∷ 8 ∷ 0 ∷ 0 ∷ 1 ∷ 1 ∷ 3 ∷ 3 ∷ 5 ∷ 5 ∷ 0 ∷ X ∷ 1 ∷ X ∷ 2 ∷ X ∷ 3 ∷ 4 ∷ []

abbrev pub Q : Table
Q = 5 ∷ 7 ∷ 0 ∷ 0 ∷ 1 ∷ 1 ∷ 3 ∷ 3 ∷ 3 ∷ 0 ∷ X ∷ 1 ∷ X ∷ 2 ∷ 3 ∷ 4 ∷ []

-- P with the labels 1 and 2 exchanged
abbrev pub R : Table
R = 5 ∷ 8 ∷ 0 ∷ 0 ∷ 1 ∷ 1 ∷ 3 ∷ 3 ∷ 5 ∷ 5 ∷ 0 ∷ X ∷ 2 ∷ X ∷ 1 ∷ X ∷ 3 ∷ 4 ∷ []

abbrev pub W : Table
W = 5 ∷ 6 ∷ 0 ∷ 0 ∷ 1 ∷ 1 ∷ 1 ∷ 1 ∷ 0 ∷ X ∷ 1 ∷ 2 ∷ 3 ∷ 4 ∷ []

abbrev pub TwoTips : Table
TwoTips = 2 ∷ 2 ∷ 0 ∷ 0 ∷ 0 ∷ 1 ∷ []

abbrev pub ThreeTips : Table
ThreeTips = 3 ∷ 4 ∷ 0 ∷ 0 ∷ 1 ∷ 1 ∷ 0 ∷ X ∷ 1 ∷ 2 ∷ []

-- the reference tables are accepted
pub references_accepted :
    refusal (tree_order P) ∷ refusal (tree_order Q) ∷ refusal (tree_order R) ∷ refusal (tree_order W)
    ∷ refusal (tree_order TwoTips) ∷ refusal (tree_order ThreeTips) ∷ []
    ≡ 0 ∷ 0 ∷ 0 ∷ 0 ∷ 0 ∷ 0 ∷ []
unfolding
    refusal tree_order arrays_order tips_fit nodes_fit parent_fits label_fits standing labels_fit labels_once is_child children
    misplaced sum bit some every tips nodes parents labels parent label
references_accepted = refl

-- docs/SPECIFICATION.md, 'Edge cases': n = 1 and 257; n = 2 and 256, where the order goes on; m = n − 1 and 4n + 1;
-- m = 2n − 1 and 4n, where the order goes on; P with one word more; no word
pub edges_of_the_check :
    refusal (tree_order (1 ∷ 1 ∷ [])) ∷ refusal (tree_order (257 ∷ 257 ∷ []))
    ∷ refusal (tree_order (2 ∷ 1 ∷ [])) ∷ refusal (tree_order (tips_most ∷ 255 ∷ []))
    ∷ refusal (tree_order (5 ∷ 4 ∷ [])) ∷ refusal (tree_order (5 ∷ 21 ∷ []))
    ∷ refusal (tree_order (5 ∷ 9 ∷ [])) ∷ refusal (tree_order (5 ∷ 20 ∷ []))
    ∷ refusal (tree_order (P ++ 0 ∷ [])) ∷ refusal (tree_order []) ∷ []
    ≡ 2 ∷ 2 ∷ 3 ∷ 3 ∷ 3 ∷ 3 ∷ 4 ∷ 4 ∷ 4 ∷ 1 ∷ []
unfolding refusal tree_order arrays_order tips_fit nodes_fit tips nodes
edges_of_the_check = refl

-- pass-through nodes: two tips at the ends of six of them; P with one above the tip 4; then the same without that tip's
-- node, so that an inner node has no child; and P with a child below a tip
pub pass_through_nodes :
    refusal (tree_order (2 ∷ 8 ∷ 0 ∷ 0 ∷ 1 ∷ 2 ∷ 3 ∷ 4 ∷ 5 ∷ 6 ∷ 0 ∷ X ∷ X ∷ X ∷ X ∷ X ∷ X ∷ 1 ∷ []))
    ∷ refusal (tree_order (5 ∷ 9 ∷ 0 ∷ 0 ∷ 1 ∷ 1 ∷ 3 ∷ 3 ∷ 5 ∷ 5 ∷ 7 ∷ 0 ∷ X ∷ 1 ∷ X ∷ 2 ∷ X ∷ 3 ∷ X ∷ 4 ∷ []))
    ∷ refusal (tree_order (4 ∷ 8 ∷ 0 ∷ 0 ∷ 1 ∷ 1 ∷ 3 ∷ 3 ∷ 5 ∷ 5 ∷ 0 ∷ X ∷ 1 ∷ X ∷ 2 ∷ X ∷ 3 ∷ X ∷ []))
    ∷ refusal (tree_order (5 ∷ 8 ∷ 0 ∷ 0 ∷ 1 ∷ 1 ∷ 3 ∷ 3 ∷ 5 ∷ 6 ∷ 0 ∷ X ∷ 1 ∷ X ∷ 2 ∷ X ∷ 3 ∷ 4 ∷ [])) ∷ []
    ≡ 0 ∷ 0 ∷ 7 ∷ 7 ∷ []
unfolding
    refusal tree_order arrays_order tips_fit nodes_fit parent_fits label_fits standing labels_fit labels_once is_child children
    misplaced sum bit some every tips nodes parents labels parent label
pass_through_nodes = refl

-- label trouble, in P: a label out of range and another repeated; one repeated; node 0's label wrong, and thereby repeated;
-- one repeated, and a tip with a child
pub label_trouble :
    refusal (tree_order (5 ∷ 8 ∷ 0 ∷ 0 ∷ 1 ∷ 1 ∷ 3 ∷ 3 ∷ 5 ∷ 5 ∷ 0 ∷ X ∷ 1 ∷ X ∷ 1 ∷ X ∷ 3 ∷ 9 ∷ []))
    ∷ refusal (tree_order (5 ∷ 8 ∷ 0 ∷ 0 ∷ 1 ∷ 1 ∷ 3 ∷ 3 ∷ 5 ∷ 5 ∷ 0 ∷ X ∷ 1 ∷ X ∷ 1 ∷ X ∷ 3 ∷ 4 ∷ []))
    ∷ refusal (tree_order (5 ∷ 8 ∷ 0 ∷ 0 ∷ 1 ∷ 1 ∷ 3 ∷ 3 ∷ 5 ∷ 5 ∷ 1 ∷ X ∷ 1 ∷ X ∷ 2 ∷ X ∷ 3 ∷ 4 ∷ []))
    ∷ refusal (tree_order (5 ∷ 8 ∷ 0 ∷ 0 ∷ 1 ∷ 1 ∷ 3 ∷ 3 ∷ 5 ∷ 5 ∷ 0 ∷ X ∷ 1 ∷ 2 ∷ 2 ∷ X ∷ 3 ∷ 4 ∷ [])) ∷ []
    ≡ 6 ∷ 31 ∷ 6 ∷ 31 ∷ []
unfolding
    refusal tree_order arrays_order tips_fit nodes_fit parent_fits label_fits standing labels_fit labels_once is_child children
    misplaced sum bit some every tips nodes parents labels parent label
label_trouble = refl

-- the orders that go on after the check
pub later_refusals :
    refusal (walk_order P 4) ∷ refusal (walk_order P 5)
    ∷ refusal (edge_order P 0 0) ∷ refusal (edge_order P 8 9) ∷ refusal (edge_order P 7 4) ∷ refusal (edge_order P 7 5) ∷ []
    ≡ 12 ∷ 0 ∷ 13 ∷ 13 ∷ 12 ∷ 0 ∷ []
unfolding
    refusal tree_order arrays_order walk_order edge_order tips_fit nodes_fit parent_fits label_fits standing labels_fit labels_once
    is_child children misplaced sum bit some every tips nodes parents labels parent label
later_refusals = refl

-- depth first, and the labels beyond an edge by position alone
pub walks :
    walk P ∷ walk R ∷ part P 3 (walk P) ∷ part R 5 (walk R) ∷ part P 5 (9 ∷ 8 ∷ 7 ∷ 6 ∷ 5 ∷ 4 ∷ []) ∷ []
    ≡ (0 ∷ 1 ∷ 2 ∷ 3 ∷ 4 ∷ []) ∷ (0 ∷ 2 ∷ 1 ∷ 3 ∷ 4 ∷ []) ∷ (2 ∷ 3 ∷ 4 ∷ []) ∷ (3 ∷ 4 ∷ []) ∷ (6 ∷ 5 ∷ []) ∷ []
unfolding
    walk walk_from visit in_turn own part start start_in below is_child sum bit anc anc_in tips nodes parents
    labels parent label node_below node_of beyond
walks = refl
