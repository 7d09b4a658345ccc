-- The invariant: each parent word before `i` keeps its rule.
-- Assumes nothing.
use Prim.Native.Nat.{ℕ, ◌≤◌, ◌<◌}
use mathlib.Core.Path.{◌≡◌}
use mathlib.Core.Bool.{true}
use lib.ListN.{length}
use Rattle.tree_check.specs.Table.{word}
use Rattle.tree_check.specs.TreeOrder.{parent_fits}
use Rattle.tree_check.proofs.table.parents_fit.Given as goal

abbrev pub invariant-loop-i : goal.invariant-loop-i
invariant-loop-i l = (l.i ≤ length l.parents) × ((k : ℕ) → k < l.i → parent_fits k (word l.parents k) ≡ true)
