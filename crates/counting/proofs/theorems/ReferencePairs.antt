-- The reference pairs K1 to K9, computed from the definitions (docs/SPECIFICATION.md, 'The figures K1 to K9').
-- Assumes nothing.
use Rattle.std.specs.Prelude.{◌≡◌, refl, true, false, [], ◌∷◌}
use Rattle.sums.specs.Sum.{sum}
use Rattle.sums.specs.Bits.{bit}
use Rattle.sums.specs.Tests.{some, every}
use Rattle.sums.specs.SetsOfFour.{sets2, sets3, sets4}
use Rattle.sums.specs.Fours.{fours}
use Rattle.shapes.specs.Ancestors.{anc_in, anc}
use Rattle.shapes.specs.Directions.{edge, rising, head, behind}
use Rattle.shapes.specs.Quartets.{parts, parted}
use Rattle.shapes.specs.Claims.{sum_if, meet, sum_claims_of, sum_claims, choose2}
use Rattle.shapes.specs.Triplets.{last_below, lowest, resolved}
use Rattle.shapes.specs.Splits.{is_split, same_sides, occurs, is_new_split, splits_of, common_of}
use Rattle.shapes.specs.theorems.SplitLaws.{all_occur, same_splits_of}
use Rattle.tree_check.specs.Table.{tips, nodes, parents, labels, parent, label, node_below, node_of, beyond}
use Rattle.trees.specs.Topology.{butterfly, partner, named, topology}
use Rattle.walks.specs.theorems.WalkExamples.{P, Q, R, W, TwoTips, ThreeTips}
use Rattle.marks.specs.Marks.{is_kept}
use Rattle.counting.specs.Labels.{all}
use Rattle.counting.specs.Kept.{kept_at, kept}
use Rattle.counting.specs.ClaimSums.{codes, behind_edge, size, crossing, S, S2, S3}
use Rattle.counting.specs.Cases.{case_of, is_case, topology_at, quartets}
use Rattle.counting.specs.QuartetTable.{formula_a, formula_b, formula_c, formula_e}
use Rattle.counting.specs.theorems.QuartetTheorem.{formula_distance}
use Rattle.counting.specs.SplitCounts.{beyond_at, splits, common_splits, robinson_foulds}
use Rattle.counting.specs.theorems.TreeSplits.{same_splits}
use Rattle.counting.specs.Triplets.{together, triplet, triplets}
use Rattle.counting.specs.theorems.ReferencePairs.{Halves, P', figures, figures_over, formulas}

-- K1 to K9
pub reference_pairs :
    figures P Q ∷ figures P R ∷ figures Q R ∷ figures P P ∷ figures W W ∷ figures P W ∷ figures W P
    ∷ figures TwoTips TwoTips ∷ figures ThreeTips ThreeTips ∷ []
    ≡ (10 ∷ 6 ∷ 6 ∷ 0 ∷ 3 ∷ 0 ∷ 2 ∷ 0 ∷ 0 ∷ 2 ∷ 2 ∷ 1 ∷ 1 ∷ 1 ∷ 3 ∷ 0 ∷ 1 ∷ 0 ∷ 0 ∷ [])
    ∷ (10 ∷ 10 ∷ 6 ∷ 8 ∷ 3 ∷ 2 ∷ 0 ∷ 0 ∷ 0 ∷ 2 ∷ 2 ∷ 2 ∷ 1 ∷ 2 ∷ 2 ∷ 2 ∷ 0 ∷ 0 ∷ 0 ∷ [])
    ∷ (6 ∷ 10 ∷ 2 ∷ 8 ∷ 1 ∷ 2 ∷ 0 ∷ 2 ∷ 0 ∷ 4 ∷ 1 ∷ 2 ∷ 0 ∷ 3 ∷ 1 ∷ 2 ∷ 0 ∷ 1 ∷ 0 ∷ [])
    ∷ (10 ∷ 10 ∷ 10 ∷ 0 ∷ 5 ∷ 0 ∷ 0 ∷ 0 ∷ 0 ∷ 0 ∷ 2 ∷ 2 ∷ 2 ∷ 0 ∷ 4 ∷ 0 ∷ 0 ∷ 0 ∷ 0 ∷ [])
    ∷ (0 ∷ 0 ∷ 0 ∷ 0 ∷ 0 ∷ 0 ∷ 0 ∷ 0 ∷ 5 ∷ 0 ∷ 0 ∷ 0 ∷ 0 ∷ 0 ∷ 0 ∷ 0 ∷ 0 ∷ 0 ∷ 4 ∷ [])
    ∷ (10 ∷ 0 ∷ 0 ∷ 0 ∷ 0 ∷ 0 ∷ 5 ∷ 0 ∷ 0 ∷ 5 ∷ 2 ∷ 0 ∷ 0 ∷ 2 ∷ 0 ∷ 0 ∷ 4 ∷ 0 ∷ 0 ∷ [])
    ∷ (0 ∷ 10 ∷ 0 ∷ 0 ∷ 0 ∷ 0 ∷ 0 ∷ 5 ∷ 0 ∷ 5 ∷ 0 ∷ 2 ∷ 0 ∷ 2 ∷ 0 ∷ 0 ∷ 0 ∷ 4 ∷ 0 ∷ [])
    ∷ (0 ∷ 0 ∷ 0 ∷ 0 ∷ 0 ∷ 0 ∷ 0 ∷ 0 ∷ 0 ∷ 0 ∷ 0 ∷ 0 ∷ 0 ∷ 0 ∷ 0 ∷ 0 ∷ 0 ∷ 0 ∷ 0 ∷ [])
    ∷ (0 ∷ 0 ∷ 0 ∷ 0 ∷ 0 ∷ 0 ∷ 0 ∷ 0 ∷ 0 ∷ 0 ∷ 0 ∷ 0 ∷ 0 ∷ 0 ∷ 0 ∷ 0 ∷ 0 ∷ 0 ∷ 0 ∷ []) ∷ []
unfolding
    figures figures_over S S2 S3 codes behind_edge size crossing sum_claims sum_claims_of sum_if meet choose2 quartets topology_at is_case
    case_of beyond_at splits common_splits robinson_foulds splits_of common_of is_new_split is_split same_sides occurs
    triplets triplet together resolved lowest last_below
    topology named partner butterfly parts parted sets2 sets3 sets4 sum bit some every
    anc_in anc edge rising head behind tips nodes parents labels parent label node_below node_of beyond
reference_pairs = refl

-- with label 0 struck, P has the one split 12|34, Q none, and Halves one, though two of its edges part 12 from 34; with label 4
-- struck, P and Q have the one split 01|23; four struck, and all
pub struck_pairs :
    figures_over (kept (0 ∷ 1 ∷ 1 ∷ 1 ∷ 1 ∷ []) 5) P Q
    ∷ figures_over (kept (1 ∷ 1 ∷ 1 ∷ 1 ∷ 0 ∷ []) 5) P Q
    ∷ figures_over (kept (0 ∷ 1 ∷ 1 ∷ 1 ∷ 1 ∷ []) 5) Halves P
    ∷ figures_over (kept (0 ∷ 0 ∷ 0 ∷ 1 ∷ 0 ∷ []) 5) P Q
    ∷ figures_over (kept (0 ∷ 0 ∷ 0 ∷ 0 ∷ 0 ∷ []) 5) P Q ∷ []
    ≡ (2 ∷ 0 ∷ 0 ∷ 0 ∷ 0 ∷ 0 ∷ 1 ∷ 0 ∷ 0 ∷ 1 ∷ 1 ∷ 0 ∷ 0 ∷ 1 ∷ [])
    ∷ (2 ∷ 2 ∷ 2 ∷ 0 ∷ 1 ∷ 0 ∷ 0 ∷ 0 ∷ 0 ∷ 0 ∷ 1 ∷ 1 ∷ 1 ∷ 0 ∷ [])
    ∷ (2 ∷ 2 ∷ 2 ∷ 0 ∷ 1 ∷ 0 ∷ 0 ∷ 0 ∷ 0 ∷ 0 ∷ 1 ∷ 1 ∷ 1 ∷ 0 ∷ [])
    ∷ (0 ∷ 0 ∷ 0 ∷ 0 ∷ 0 ∷ 0 ∷ 0 ∷ 0 ∷ 0 ∷ 0 ∷ 0 ∷ 0 ∷ 0 ∷ 0 ∷ [])
    ∷ (0 ∷ 0 ∷ 0 ∷ 0 ∷ 0 ∷ 0 ∷ 0 ∷ 0 ∷ 0 ∷ 0 ∷ 0 ∷ 0 ∷ 0 ∷ 0 ∷ []) ∷ []
unfolding
    is_kept kept_at figures_over S S2 S3 codes behind_edge size crossing sum_claims sum_claims_of sum_if meet choose2
    quartets topology_at is_case
    case_of beyond_at splits common_splits robinson_foulds splits_of common_of is_new_split is_split same_sides occurs
    topology named partner butterfly parts parted sets2 sets3 sets4 sum bit some every
    anc_in anc edge rising head behind tips nodes parents labels parent label node_below node_of beyond
struck_pairs = refl

pub reference_formulas :
    formulas 5 10 6 6 0 ∷ formulas 5 10 10 6 8 ∷ formulas 5 6 10 2 8 ∷ formulas 5 10 10 10 0
    ∷ formulas 5 0 0 0 0 ∷ formulas 5 10 0 0 0 ∷ formulas 5 0 10 0 0 ∷ formulas 2 0 0 0 0
    ∷ formulas 3 0 0 0 0 ∷ []
    ≡ (3 ∷ 0 ∷ 2 ∷ 0 ∷ 0 ∷ 2 ∷ []) ∷ (3 ∷ 2 ∷ 0 ∷ 0 ∷ 0 ∷ 2 ∷ []) ∷ (1 ∷ 2 ∷ 0 ∷ 2 ∷ 0 ∷ 4 ∷ [])
    ∷ (5 ∷ 0 ∷ 0 ∷ 0 ∷ 0 ∷ 0 ∷ []) ∷ (0 ∷ 0 ∷ 0 ∷ 0 ∷ 5 ∷ 0 ∷ []) ∷ (0 ∷ 0 ∷ 5 ∷ 0 ∷ 0 ∷ 5 ∷ [])
    ∷ (0 ∷ 0 ∷ 0 ∷ 5 ∷ 0 ∷ 5 ∷ []) ∷ (0 ∷ 0 ∷ 0 ∷ 0 ∷ 0 ∷ 0 ∷ []) ∷ (0 ∷ 0 ∷ 0 ∷ 0 ∷ 0 ∷ 0 ∷ []) ∷ []
unfolding formula_a formula_b formula_c formula_e formula_distance fours
reference_formulas = refl

-- the same splits are a matter of tip sets alone: P and R have the same parent words, P and P' have not
pub reference_same_splits :
    same_splits (all 5) P Q ∷ same_splits (all 5) P R ∷ same_splits (all 5) P W ∷ same_splits (all 5) P P ∷ same_splits (all 5) P P' ∷ same_splits (all 5) W W ∷ []
    ≡ false ∷ false ∷ false ∷ true ∷ true ∷ true ∷ []
unfolding
    beyond_at same_splits same_splits_of all_occur is_split same_sides occurs sum bit some every anc_in anc
    tips nodes parents labels parent label node_below node_of beyond
reference_same_splits = refl
