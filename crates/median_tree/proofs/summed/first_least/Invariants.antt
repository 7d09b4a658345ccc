-- The invariant: `p` is the first_least of the positions before `i`.
-- Assumes nothing.
use mathlib.Core.Path.{◌≡◌}
use Prim.Native.Nat.{◌<◌}
use Rattle.tree_check.specs.Table.{word}
use Rattle.median_tree.specs.Least.{first_least}
use Rattle.median_tree.proofs.summed.first_least.Given as goal

abbrev pub invariant-loop-i : goal.invariant-loop-i
invariant-loop-i l = (l.p ≡ first_least (word l.sums) l.i) × (l.p < l.k)
