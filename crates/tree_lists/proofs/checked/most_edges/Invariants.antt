-- The invariant: `most` is the most of the trees before `i`.
-- Assumes nothing.
use mathlib.Core.Path.{◌≡◌}
use Prim.Native.Nat.{◌<◌}
use Rattle.tree_lists.specs.TreeLists.{edges_at, largest}
use Rattle.tree_lists.proofs.checked.most_edges.Given as goal

abbrev pub invariant-loop-i : goal.invariant-loop-i
invariant-loop-i l = (l.most ≡ largest l.i (edges_at l.list)) × (l.most < 65536)
