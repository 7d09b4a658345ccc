-- Below a half the weighted distance keeps no triangle: with k = 127 the way from a butterfly to another is shorter through
-- the star. Computed from the definitions, of three trees with four tips.
-- Assumes nothing.
use Rattle.std.specs.Prelude.{◌≡◌, refl, [], ◌∷◌}
use Rattle.sums.specs.Sum.{sum}
use Rattle.sums.specs.Bits.{bit}
use Rattle.sums.specs.Tests.{some, every}
use Rattle.sums.specs.SetsOfFour.{sets2, sets3, sets4}
use Rattle.shapes.specs.Ancestors.{anc_in, anc}
use Rattle.shapes.specs.Quartets.{parts, parted}
use Rattle.tree_check.specs.Table.{tips, nodes, parents, labels, parent, label, node_below, node_of}
use Rattle.tree_check.specs.Refusals.{refusal}
use Rattle.tree_check.specs.TreeOrder.{tips_fit, nodes_fit, parent_fits, label_fits, standing, labels_fit, labels_once, is_child, children, misplaced, arrays_order, tree_order}
use Rattle.trees.specs.Topology.{butterfly, partner, named, topology}
use Rattle.counting.specs.Labels.{all}
use Rattle.counting.specs.Cases.{case_of, is_case, topology_at, quartets, weighted}
use Rattle.metric.specs.theorems.BelowHalf.{Star4, With1, With2}

-- all three are accepted
pub three_accepted : refusal (tree_order With1) ∷ refusal (tree_order Star4) ∷ refusal (tree_order With2) ∷ [] ≡ 0 ∷ 0 ∷ 0 ∷ []
unfolding
    refusal tree_order arrays_order tips_fit nodes_fit parent_fits label_fits standing labels_fit labels_once is_child children misplaced
    sum bit some every tips nodes parents labels parent label
three_accepted = refl

-- from one butterfly to the other, and through the star: 256 and 127 + 127 with k = 127, 256 and 128 + 128 with k = 128
pub below_half :
    weighted 127 (all 4) With1 With2 ∷ weighted 127 (all 4) With1 Star4 ∷ weighted 127 (all 4) Star4 With2
    ∷ weighted 128 (all 4) With1 With2 ∷ weighted 128 (all 4) With1 Star4 ∷ weighted 128 (all 4) Star4 With2 ∷ []
    ≡ 256 ∷ 127 ∷ 127 ∷ 256 ∷ 128 ∷ 128 ∷ []
unfolding
    quartets topology_at is_case case_of topology named partner butterfly parts parted
    sets2 sets3 sets4 sum bit some anc_in anc tips nodes parents labels parent label node_below node_of
below_half = refl
