-- The exchanges of the reference tables, computed from the definitions.
-- Assumes nothing.
use Rattle.std.specs.Prelude.{◌≡◌, refl, List, [], ◌∷◌, map, ℕ}
use Rattle.sums.specs.Sum.{sum}
use Rattle.sums.specs.Bits.{bit}
use Rattle.sums.specs.Tests.{some}
use Rattle.sums.specs.SetsOfFour.{sets2, sets3, sets4}
use Rattle.sums.specs.Swaps.{swapped}
use Rattle.sums.specs.Fours.{fours}
use Rattle.shapes.specs.Ancestors.{anc_in, anc}
use Rattle.shapes.specs.Quartets.{parts, parted}
use Rattle.tree_check.specs.Table.{Table, tips, nodes, parents, labels, parent, label, node_below, node_of}
use Rattle.trees.specs.Topology.{butterfly, partner, named, topology}
use Rattle.walks.specs.theorems.WalkExamples.{P, Q, W, TwoTips, ThreeTips}
use Rattle.counting.specs.Cases.{case_of, is_case}
use Rattle.exchanges.specs.Exchanges.{exchanged_butterfly, exchanged_topology, exchange_cases, exchange_distance}
use Rattle.exchanges.specs.Exchanges.{tally_of, tally}

-- label 0 takes part
pub distances :
    exchange_distance P 0 1 ∷ exchange_distance P 0 2 ∷ exchange_distance P 0 3 ∷ exchange_distance P 1 2
    ∷ exchange_distance P 2 4 ∷ exchange_distance P 3 4 ∷ []
    ≡ 0 ∷ 2 ∷ 5 ∷ 2 ∷ 2 ∷ 0 ∷ []
unfolding
    exchange_distance exchange_cases exchanged_topology exchanged_butterfly swapped topology named partner butterfly parted
    parts some anc anc_in is_case case_of sets4 sets3 sets2 sum bit tips nodes parents labels parent label
    node_below node_of
distances = refl

abbrev tallies_of : Table → List ℕ
tallies_of t = map (tally t) (0 ∷ 1 ∷ 2 ∷ 3 ∷ 4 ∷ 5 ∷ 6 ∷ 7 ∷ 8 ∷ 9 ∷ 10 ∷ [])

pub reference_tallies :
    tallies_of P ∷ tallies_of Q ∷ tallies_of W ∷ tallies_of TwoTips ∷ tallies_of ThreeTips ∷ []
    ≡ (2 ∷ 0 ∷ 0 ∷ 0 ∷ 4 ∷ 0 ∷ 0 ∷ 0 ∷ 0 ∷ 0 ∷ 4 ∷ [])
    ∷ (4 ∷ 0 ∷ 0 ∷ 0 ∷ 0 ∷ 0 ∷ 0 ∷ 0 ∷ 6 ∷ 0 ∷ 0 ∷ [])
    ∷ (10 ∷ 0 ∷ 0 ∷ 0 ∷ 0 ∷ 0 ∷ 0 ∷ 0 ∷ 0 ∷ 0 ∷ 0 ∷ [])
    ∷ (1 ∷ 0 ∷ 0 ∷ 0 ∷ 0 ∷ 0 ∷ 0 ∷ 0 ∷ 0 ∷ 0 ∷ 0 ∷ [])
    ∷ (3 ∷ 0 ∷ 0 ∷ 0 ∷ 0 ∷ 0 ∷ 0 ∷ 0 ∷ 0 ∷ 0 ∷ 0 ∷ []) ∷ []
unfolding
    tally tally_of fours exchange_distance exchange_cases exchanged_topology exchanged_butterfly swapped topology named
    partner butterfly parted parts some anc anc_in is_case case_of sets4 sets3 sets2 sum bit tips nodes parents
    labels parent label node_below node_of
reference_tallies = refl
