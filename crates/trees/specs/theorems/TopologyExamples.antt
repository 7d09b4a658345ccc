-- Labels that are refused, centres and topologies, on the reference tables.
-- Assumes nothing.
use Rattle.std.specs.Prelude.{◌≡◌, refl, [], ◌∷◌}
use Rattle.sums.specs.Sum.{sum}
use Rattle.sums.specs.Bits.{bit}
use Rattle.sums.specs.Tests.{some, every}
use Rattle.shapes.specs.Ancestors.{anc_in, anc}
use Rattle.shapes.specs.Directions.{edge, rising, head, behind}
use Rattle.shapes.specs.Paths.{on_path}
use Rattle.shapes.specs.Centres.{on_all, centre_below, centre_of}
use Rattle.shapes.specs.Quartets.{parts, parted}
use Rattle.tree_check.specs.Table.{tips, nodes, parents, labels, parent, label, node_below, node_of}
use Rattle.tree_check.specs.Refusals.{refusal}
use Rattle.tree_check.specs.TreeOrder.{tips_fit, nodes_fit, parent_fits, label_fits, standing, labels_fit, labels_once}
use Rattle.tree_check.specs.TreeOrder.{is_child, children, misplaced, arrays_order, tree_order}
use Rattle.walks.specs.theorems.WalkExamples.{P, Q, R, ThreeTips}
use Rattle.asked_labels.specs.LabelOrder.{too_large, two_equal, asked_order, label_order}
use Rattle.trees.specs.Centre.{centre}
use Rattle.trees.specs.Topology.{butterfly, partner, named, topology}
use Rattle.trees.specs.declared.quartet.Topology.TheVariants.{Butterfly, Star}

-- a label that is no tip's before two that are equal
pub label_refusals :
    refusal (label_order P (5 ∷ 5 ∷ 1 ∷ [])) ∷ refusal (label_order P (4 ∷ 1 ∷ 4 ∷ []))
    ∷ refusal (label_order P (4 ∷ 1 ∷ 0 ∷ [])) ∷ []
    ≡ 10 ∷ 11 ∷ 0 ∷ []
unfolding
    refusal tree_order arrays_order label_order asked_order too_large two_equal tips_fit nodes_fit parent_fits label_fits
    standing labels_fit labels_once is_child children misplaced sum bit some every tips nodes parents labels parent label
label_refusals = refl

pub centres : centre P 1 2 3 ∷ centre P 3 1 2 ∷ centre P 0 1 4 ∷ centre Q 2 3 4 ∷ centre ThreeTips 0 1 2 ∷ []
    ≡ 3 ∷ 3 ∷ 1 ∷ 3 ∷ 1 ∷ []
unfolding
    centre centre_of centre_below on_all on_path head behind edge rising every anc anc_in tips nodes parents
    labels parent label node_below node_of
centres = refl

-- in any order of the labels, and a star
pub topologies :
    topology P 0 1 2 3 ∷ topology P 3 0 2 1 ∷ topology P 4 3 2 1 ∷ topology Q 1 2 3 4 ∷ topology R 3 2 1 0 ∷ []
    ≡ Butterfly 1 ∷ Butterfly 1 ∷ Butterfly 2 ∷ Star ∷ Butterfly 2 ∷ []
unfolding
    topology named partner butterfly parted parts some anc anc_in tips nodes parents labels parent label
    node_below node_of
topologies = refl
