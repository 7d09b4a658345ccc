-- Two file pairs with six tips, labels 0 and 2 hidden: their trees, levels and viewers differ, and a viewer is told the same,
-- computed from the definitions.
-- Assumes nothing.
use Rattle.std.specs.Prelude.{◌≡◌, refl, List, [], ◌∷◌, ℕ}
use Rattle.sums.specs.Sum.{sum}
use Rattle.sums.specs.Bits.{bit}
use Rattle.sums.specs.Tests.{some, every}
use Rattle.sums.specs.SetsOfFour.{sets2, sets3, sets4}
use Rattle.shapes.specs.Ancestors.{anc_in, anc}
use Rattle.shapes.specs.Quartets.{parts, parted}
use Rattle.shapes.specs.Splits.{is_split, same_sides, occurs, is_new_split, splits_of, common_of}
use Rattle.tree_check.specs.Table.{Table, tips, nodes, parents, labels, parent, label, node_below, node_of, beyond}
use Rattle.tree_check.specs.Refusals.{refusal, if_accepted}
use Rattle.tree_check.specs.TreeOrder.{tips_fit, nodes_fit, parent_fits, label_fits, standing, labels_fit, labels_once, is_child, children, misplaced, arrays_order, tree_order}
use Rattle.trees.specs.Topology.{butterfly, partner, named, topology}
use Rattle.walks.specs.theorems.WalkExamples.{X}
use Rattle.counting.specs.Kept.{kept_at}
use Rattle.counting.specs.Cases.{case_of, is_case, topology_at, quartets}
use Rattle.counting.specs.SplitCounts.{beyond_at, splits, common_splits, robinson_foulds}
use Rattle.pair_check.specs.PairOrder.{plus, tips_order, tables_order, work_order}
use Rattle.levels.specs.Levels.{is_visible, levels_order}
use Rattle.views.specs.View.{view_order, view_answer}
use Rattle.views.specs.declared.pairs.ViewAnswer.{ViewAnswer}

-- 0, 1, 2 and 3 leave one after another, and 4 and 5 are together
abbrev Ladder : Table
Ladder = 6 ∷ 10 ∷ 0 ∷ 0 ∷ 1 ∷ 1 ∷ 3 ∷ 3 ∷ 5 ∷ 5 ∷ 7 ∷ 7 ∷ 0 ∷ X ∷ 1 ∷ X ∷ 2 ∷ X ∷ 3 ∷ X ∷ 4 ∷ 5 ∷ []

-- 0, 2, the two 1 and 3, and the two 4 and 5
abbrev Forks : Table
Forks = 6 ∷ 9 ∷ 0 ∷ 0 ∷ 1 ∷ 2 ∷ 2 ∷ 1 ∷ 5 ∷ 5 ∷ 1 ∷ 0 ∷ X ∷ X ∷ 1 ∷ 3 ∷ X ∷ 4 ∷ 5 ∷ 2 ∷ []

abbrev Star6 : Table
Star6 = 6 ∷ 7 ∷ 0 ∷ 0 ∷ 1 ∷ 1 ∷ 1 ∷ 1 ∷ 1 ∷ 0 ∷ X ∷ 1 ∷ 2 ∷ 3 ∷ 4 ∷ 5 ∷ []

-- the same with a pass-through node above 2
abbrev Passed6 : Table
Passed6 = 6 ∷ 8 ∷ 0 ∷ 0 ∷ 1 ∷ 1 ∷ 1 ∷ 1 ∷ 1 ∷ 6 ∷ 0 ∷ X ∷ 1 ∷ 3 ∷ 4 ∷ 5 ∷ X ∷ 2 ∷ []

abbrev numbers : ViewAnswer → List ℕ
numbers r =
    r.refusal ∷ r.visible ∷ r.a ∷ r.b ∷ r.c ∷ r.d ∷ r.e ∷ r.distance
    ∷ r.first_splits ∷ r.second_splits ∷ r.common_splits ∷ r.robinson_foulds ∷ []

-- 1, 3, 4 and 5 are visible: a butterfly in the first trees, a star in the second ones
pub two_runs :
    numbers (view_answer Ladder Star6 (3 ∷ 0 ∷ 2 ∷ 0 ∷ 1 ∷ 0 ∷ []) 1 54) ∷ numbers (view_answer Forks Passed6 (1 ∷ 0 ∷ 1 ∷ 0 ∷ 0 ∷ 0 ∷ []) 0 60) ∷ []
    ≡ (0 ∷ 4 ∷ 0 ∷ 0 ∷ 1 ∷ 0 ∷ 0 ∷ 1 ∷ 1 ∷ 0 ∷ 0 ∷ 1 ∷ []) ∷ (0 ∷ 4 ∷ 0 ∷ 0 ∷ 1 ∷ 0 ∷ 0 ∷ 1 ∷ 1 ∷ 0 ∷ 0 ∷ 1 ∷ []) ∷ []
unfolding
    view_answer view_order levels_order is_visible
    refusal if_accepted tree_order arrays_order tips_fit nodes_fit parent_fits label_fits standing labels_fit labels_once is_child children misplaced
    plus tips_order tables_order work_order kept_at quartets topology_at is_case case_of
    beyond_at splits common_splits robinson_foulds splits_of common_of is_new_split is_split same_sides occurs
    topology named partner butterfly parts parted sets2 sets3 sets4 sum bit some every
    anc_in anc tips nodes parents labels parent label node_below node_of beyond
two_runs = refl
