-- The canonical copy of a tree table: re-rooted at the smallest label that is counted, and copied. An executable definition
-- (docs/SPECIFICATION.md, 'The canonical copy').
-- Assumes nothing.
use Rattle.std.specs.Prelude.{List, ℕ}
use Rattle.sums.specs.Swaps.{swapped}
use Rattle.tree_check.specs.Table.{Table, tips, nodes, parent, node_of}
use Rattle.counting.specs.Labels.{Labels}
use Rattle.counting.specs.Kept.{kept}
use Rattle.rerooting.specs.Rerooted.{rerooted}
use Rattle.canonical.specs.Copying.{copy_of}

-- the table re-rooted at the label of rank 0, which changes places with label 0 ..
unfoldable pub from_first : Labels → Table → Table
from_first l t = rerooted t (l.at 0)

-- .. and its node with the label of rank i
unfoldable pub tip_node : Labels → Table → ℕ → ℕ
tip_node l t i = node_of (from_first l t) (swapped 0 (l.at 0) (l.at i))

unfoldable pub canonical_at : Labels → Table → Table
canonical_at l t = copy_of (parent (from_first l t)) (nodes (from_first l t)) (tip_node l t) l.number

-- the copy under marks
abbrev pub canonical_copy : List ℕ → Table → Table
canonical_copy marks t = canonical_at (kept marks (tips t)) t
