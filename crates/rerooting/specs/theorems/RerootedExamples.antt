-- The definition computed: a tree of four tips that parts 0 and 1 from 2 and 3, re-rooted at tip 2.
-- Assumes nothing.
use Rattle.std.specs.Prelude.{◌≡◌, refl, [], ◌∷◌}
use Rattle.sums.specs.Sum.{sum}
use Rattle.sums.specs.Bits.{bit}
use Rattle.sums.specs.Lists.{in_order}
use Rattle.sums.specs.Swaps.{swapped}
use Rattle.sums.specs.Tests.{first}
use Rattle.shapes.specs.Ancestors.{anc, anc_in}
use Rattle.tree_check.specs.Table.{Table, tips, nodes, parents, labels, parent, label, node_below, node_of}
use Rattle.shapes.specs.Rerooting.{path_after, renumbered, node_numbered, rerooted_up}
use Rattle.rerooting.specs.Rerooted.{new_parent, new_label, rerooted}

-- nodes 0: tip 0, 1: inner, 2: tip 1, 3: inner, 4: tip 2, 5: tip 3
abbrev pub four_tips : Table
four_tips = 4 ∷ 6 ∷ 0 ∷ 0 ∷ 1 ∷ 1 ∷ 3 ∷ 3 ∷ 0 ∷ 65535 ∷ 1 ∷ 65535 ∷ 2 ∷ 3 ∷ []

-- the path 4, 3, 1, 0 first, then 2 and 5; the labels 0 and 2 exchanged
pub four_tips-rerooted : rerooted four_tips 2
    ≡ 4 ∷ 6 ∷ 0 ∷ 0 ∷ 1 ∷ 2 ∷ 2 ∷ 1 ∷ 0 ∷ 65535 ∷ 65535 ∷ 2 ∷ 1 ∷ 3 ∷ []
unfolding rerooted in_order new_parent new_label swapped rerooted_up node_numbered renumbered path_after tips nodes parents labels parent label node_of node_below anc anc_in first sum bit
four_tips-rerooted = refl
