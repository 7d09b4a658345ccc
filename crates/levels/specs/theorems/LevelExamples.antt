-- The topology for a viewer, computed from the definitions: of P with the labels 0 and 2 hidden, and with 0 alone.
-- Assumes nothing.
use Rattle.std.specs.Prelude.{◌≡◌, refl, List, [], ◌∷◌, ℕ}
use Rattle.sums.specs.Sum.{sum}
use Rattle.sums.specs.Bits.{bit}
use Rattle.sums.specs.Tests.{some, every}
use Rattle.shapes.specs.Ancestors.{anc_in, anc}
use Rattle.shapes.specs.Quartets.{parts, parted}
use Rattle.tree_check.specs.Table.{tips, nodes, parents, labels, parent, label, node_below, node_of}
use Rattle.tree_check.specs.Refusals.{refusal, if_accepted}
use Rattle.tree_check.specs.TreeOrder.{tips_fit, nodes_fit, parent_fits, label_fits, standing, labels_fit, labels_once, is_child, children, misplaced, arrays_order, tree_order}
use Rattle.asked_labels.specs.LabelOrder.{two_equal}
use Rattle.trees.specs.Topology.{butterfly, partner, named, topology, topology_under, butterfly_of, partner_of}
use Rattle.trees.specs.declared.quartet.TopologyAnswer.{TopologyAnswer}
use Rattle.walks.specs.theorems.WalkExamples.{P}
use Rattle.levels.specs.Levels.{is_visible, levels_order}
use Rattle.levels.specs.ViewTopology.{levelled_order, hidden_order, view_label_order, view_topology}

abbrev numbers : TopologyAnswer → List ℕ
numbers r = r.refusal ∷ butterfly_of r.topology ∷ partner_of r.topology ∷ []

-- a hidden label answers as 5, which does not exist, also where it stands twice; a visible one that stands twice answers 11; with
-- 2 visible, 1 2 3 4 are the butterfly 12|34
pub viewed :
    numbers (view_topology P (3 ∷ 1 ∷ 2 ∷ 0 ∷ 1 ∷ []) 1 1 2 3 4)
    ∷ numbers (view_topology P (3 ∷ 1 ∷ 2 ∷ 0 ∷ 1 ∷ []) 1 1 5 3 4)
    ∷ numbers (view_topology P (3 ∷ 1 ∷ 2 ∷ 0 ∷ 1 ∷ []) 1 2 2 3 4)
    ∷ numbers (view_topology P (3 ∷ 1 ∷ 2 ∷ 0 ∷ 1 ∷ []) 1 1 1 3 4)
    ∷ numbers (view_topology P (3 ∷ 1 ∷ 2 ∷ 0 ∷ 1 ∷ []) 2 1 2 3 4)
    ∷ numbers (view_topology P (3 ∷ 1 ∷ 4 ∷ 0 ∷ 1 ∷ []) 2 1 2 3 4)
    ∷ numbers (view_topology P (3 ∷ 1 ∷ 2 ∷ 0 ∷ 1 ∷ []) 4 1 2 3 4)
    ∷ []
    ≡ (10 ∷ 0 ∷ 0 ∷ []) ∷ (10 ∷ 0 ∷ 0 ∷ []) ∷ (10 ∷ 0 ∷ 0 ∷ []) ∷ (11 ∷ 0 ∷ 0 ∷ []) ∷ (0 ∷ 1 ∷ 2 ∷ [])
    ∷ (37 ∷ 0 ∷ 0 ∷ []) ∷ (37 ∷ 0 ∷ 0 ∷ []) ∷ []
unfolding
    view_topology topology_under view_label_order levelled_order hidden_order levels_order is_visible
    refusal if_accepted tree_order arrays_order tips_fit nodes_fit parent_fits label_fits standing labels_fit labels_once is_child children misplaced
    two_equal topology named partner butterfly parts parted sum bit some every
    anc_in anc tips nodes parents labels parent label node_below node_of
viewed = refl
