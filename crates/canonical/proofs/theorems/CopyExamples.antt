-- Canonical copies of small tables, computed.
-- Assumes nothing.
use Rattle.std.specs.Prelude.{◌≡◌, refl, [], ◌∷◌}
use Rattle.sums.specs.Sum.{sum}
use Rattle.sums.specs.Bits.{bit}
use Rattle.sums.specs.Tests.{some, first}
use Rattle.sums.specs.Lists.{in_order}
use Rattle.sums.specs.Swaps.{swapped}
use Rattle.shapes.specs.Ancestors.{anc, anc_in}
use Rattle.shapes.specs.Rerooting.{path_after, renumbered, node_numbered, rerooted_up}
use Rattle.tree_check.specs.Table.{tips, nodes, parents, labels, parent, label, node_below, node_of}
use Rattle.marks.specs.Marks.{is_kept}
use Rattle.counting.specs.Kept.{kept_at}
use Rattle.rerooting.specs.Rerooted.{new_parent, new_label, rerooted}
use Rattle.canonical.specs.Copying.{full, low, branch, tip, stays, copy_size, earlier, number_in, number, over_in, over, at, label_word, copy_of}
use Rattle.canonical.specs.CanonicalCopy.{from_first, tip_node, canonical_at, canonical_copy}

-- (3, 2), ((1)) with the pass-through nodes 5 and 6, all kept: they are gone, and 1 comes before 2 and 3
pub passed_through : canonical_copy (1 ∷ 1 ∷ 1 ∷ 1 ∷ [])
    (4 ∷ 8 ∷ 0 ∷ 0 ∷ 1 ∷ 2 ∷ 2 ∷ 1 ∷ 5 ∷ 6 ∷ 0 ∷ 65535 ∷ 65535 ∷ 3 ∷ 2 ∷ 65535 ∷ 65535 ∷ 1 ∷ [])
    ≡ 4 ∷ 6 ∷ 0 ∷ 0 ∷ 1 ∷ 1 ∷ 3 ∷ 3 ∷ 0 ∷ 65535 ∷ 1 ∷ 65535 ∷ 2 ∷ 3 ∷ []
unfolding sum bit some first anc anc_in tips nodes parents labels parent label node_below node_of is_kept kept_at in_order full low branch tip stays copy_size earlier number_in number over_in over at label_word copy_of path_after renumbered node_numbered rerooted_up new_parent new_label swapped rerooted from_first tip_node canonical_at
passed_through = refl

-- R with label 0 struck: ((3, 4), 1), 2 seen from label 1
pub zero_struck : canonical_copy (0 ∷ 1 ∷ 1 ∷ 1 ∷ 1 ∷ [])
    (5 ∷ 8 ∷ 0 ∷ 0 ∷ 1 ∷ 1 ∷ 3 ∷ 3 ∷ 5 ∷ 5 ∷ 0 ∷ 65535 ∷ 2 ∷ 65535 ∷ 1 ∷ 65535 ∷ 3 ∷ 4 ∷ [])
    ≡ 4 ∷ 6 ∷ 0 ∷ 0 ∷ 1 ∷ 1 ∷ 3 ∷ 3 ∷ 0 ∷ 65535 ∷ 1 ∷ 65535 ∷ 2 ∷ 3 ∷ []
unfolding sum bit some first anc anc_in tips nodes parents labels parent label node_below node_of is_kept kept_at in_order full low branch tip stays copy_size earlier number_in number over_in over at label_word copy_of path_after renumbered node_numbered rerooted_up new_parent new_label swapped rerooted from_first tip_node canonical_at
zero_struck = refl

-- two labels of it: the tree with two tips
pub two_left : canonical_copy (0 ∷ 0 ∷ 1 ∷ 0 ∷ 1 ∷ [])
    (5 ∷ 8 ∷ 0 ∷ 0 ∷ 1 ∷ 1 ∷ 3 ∷ 3 ∷ 5 ∷ 5 ∷ 0 ∷ 65535 ∷ 2 ∷ 65535 ∷ 1 ∷ 65535 ∷ 3 ∷ 4 ∷ [])
    ≡ 2 ∷ 2 ∷ 0 ∷ 0 ∷ 0 ∷ 1 ∷ []
unfolding sum bit some first anc anc_in tips nodes parents labels parent label node_below node_of is_kept kept_at in_order full low branch tip stays copy_size earlier number_in number over_in over at label_word copy_of path_after renumbered node_numbered rerooted_up new_parent new_label swapped rerooted from_first tip_node canonical_at
two_left = refl
