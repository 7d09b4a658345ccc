-- Q with three pass-through nodes, and Q: the one is the other with its pass-through nodes taken out, and their figures are the
-- same, computed from the definitions and by the theorem.
-- Assumes nothing.
use Rattle.std.specs.Prelude.{◌≡◌, refl, [], ◌∷◌}
use Rattle.sums.specs.Sum.{sum}
use Rattle.sums.specs.Bits.{bit}
use Rattle.sums.specs.Tests.{some, every}
use Rattle.sums.specs.SetsOfFour.{sets2, sets3, sets4}
use Rattle.shapes.specs.Ancestors.{anc_in, anc}
use Rattle.shapes.specs.Directions.{edge, rising, head, behind}
use Rattle.shapes.specs.Quartets.{parts, parted}
use Rattle.shapes.specs.Claims.{sum_if, meet, sum_claims_of, sum_claims, choose2}
use Rattle.shapes.specs.Triplets.{last_below, lowest, resolved}
use Rattle.shapes.specs.Splits.{is_split, same_sides, occurs, is_new_split, splits_of, common_of}
use Rattle.tree_check.specs.Table.{word, tips, nodes, parents, labels, parent, label, node_below, node_of, beyond}
use Rattle.tree_check.specs.IsTree.{IsTree}
use Rattle.tree_check.specs.Refusals.{refusal}
use Rattle.tree_check.specs.TreeOrder.{tips_fit, nodes_fit, parent_fits, label_fits, standing, labels_fit, labels_once}
use Rattle.tree_check.specs.TreeOrder.{is_child, children, misplaced, arrays_order, tree_order}
use Rattle.tree_check.specs.theorems.TreeCheck.{tree_check}
use Rattle.trees.specs.Topology.{butterfly, partner, named, topology}
use Rattle.walks.specs.theorems.WalkExamples.{Q, R}
use Rattle.counting.specs.Labels.{all}
use Rattle.counting.specs.ClaimSums.{codes, behind_edge, size, crossing, S, S2, S3}
use Rattle.counting.specs.Cases.{case_of, is_case, topology_at, quartets}
use Rattle.counting.specs.SplitCounts.{beyond_at, splits, common_splits, robinson_foulds}
use Rattle.counting.specs.Triplets.{together, triplet, triplets}
use Rattle.counting.proofs.theorems.LabelLaws.{all-rising}
use Rattle.counting.specs.theorems.LabelsAlone.{SameFigures, LabelsAlone}
use Rattle.counting.specs.theorems.PassThrough.{NoPassThrough, TakenOut}
use Rattle.counting.proofs.theorems.PassingThrough.{passing_through_changes_nothing}
use Rattle.counting.specs.theorems.ReferencePairs.{figures_over, figures}
use Rattle.counting.specs.theorems.TakenOutTests.{passes, comes_next}
use Rattle.counting.proofs.theorems.TakenOutTests.{tests_take_out, none_passes}
use Rattle.counting.specs.theorems.PassThroughExample.{QPassing}

pub are_trees : IsTree QPassing × IsTree Q × IsTree R
unfolding
    refusal tree_order arrays_order tips_fit nodes_fit parent_fits label_fits standing labels_fit labels_once is_child children
    misplaced sum bit some every tips nodes parents labels parent label
are_trees = ((tree_check QPassing).0 refl, (tree_check Q).0 refl, (tree_check R).0 refl)

-- Q's nodes are the nodes 0, 2, 3, 4, 5, 6 and 9
pub Q-taken_out : TakenOut QPassing Q
unfolding passes comes_next anc_in anc is_child children sum bit every tips nodes parents labels parent label
Q-taken_out =
    tests_take_out QPassing are_trees.0 Q
    (word (0 ∷ 2 ∷ 3 ∷ 4 ∷ 5 ∷ 6 ∷ 9 ∷ [])) (word (0 ∷ 0 ∷ 1 ∷ 2 ∷ 3 ∷ 4 ∷ 5 ∷ 0 ∷ 0 ∷ 6 ∷ []))
    (record { same_tips = refl; inside = tt; kept = tt; different = tt; all = tt; labels = tt; parents = tt })

pub none_in_Q : NoPassThrough Q
unfolding passes is_child children sum bit every nodes parents labels parent label
none_in_Q = none_passes Q tt

-- against R, as first table and as second: K3, and K3 with its tables exchanged
pub figures_of-QPassing :
    figures QPassing R ∷ figures Q R ∷ figures R QPassing ∷ figures R Q ∷ []
    ≡ (6 ∷ 10 ∷ 2 ∷ 8 ∷ 1 ∷ 2 ∷ 0 ∷ 2 ∷ 0 ∷ 4 ∷ 1 ∷ 2 ∷ 0 ∷ 3 ∷ 1 ∷ 2 ∷ 0 ∷ 1 ∷ 0 ∷ [])
    ∷ (6 ∷ 10 ∷ 2 ∷ 8 ∷ 1 ∷ 2 ∷ 0 ∷ 2 ∷ 0 ∷ 4 ∷ 1 ∷ 2 ∷ 0 ∷ 3 ∷ 1 ∷ 2 ∷ 0 ∷ 1 ∷ 0 ∷ [])
    ∷ (10 ∷ 6 ∷ 2 ∷ 8 ∷ 1 ∷ 2 ∷ 2 ∷ 0 ∷ 0 ∷ 4 ∷ 2 ∷ 1 ∷ 0 ∷ 3 ∷ 1 ∷ 2 ∷ 1 ∷ 0 ∷ 0 ∷ [])
    ∷ (10 ∷ 6 ∷ 2 ∷ 8 ∷ 1 ∷ 2 ∷ 2 ∷ 0 ∷ 0 ∷ 4 ∷ 2 ∷ 1 ∷ 0 ∷ 3 ∷ 1 ∷ 2 ∷ 1 ∷ 0 ∷ 0 ∷ []) ∷ []
unfolding
    figures figures_over S S2 S3 codes behind_edge size crossing sum_claims sum_claims_of sum_if meet choose2 quartets topology_at is_case
    case_of beyond_at splits common_splits robinson_foulds splits_of common_of is_new_split is_split same_sides occurs
    triplets triplet together resolved lowest last_below
    topology named partner butterfly parts parted sets2 sets3 sets4 sum bit some every
    anc_in anc edge rising head behind tips nodes parents labels parent label node_below node_of beyond
figures_of-QPassing = refl

-- the same by the theorem: whatever is counted of QPassing is that of Q, ..
pub QPassing_as_Q : LabelsAlone QPassing Q
QPassing_as_Q = passing_through_changes_nothing QPassing Q are_trees.0 are_trees.1 Q-taken_out

-- .. its figures against R too
pub QPassing_against_R : SameFigures (all 5) QPassing R Q R
unfolding tips
QPassing_against_R = (QPassing_as_Q.figures (all 5) (all-rising 5)).as_first R are_trees.2 refl
