-- The invariant: each tree before `i` is right.
-- Assumes nothing.
use mathlib.Core.Path.{◌≡◌}
use Prim.Native.Nat.{ℕ, ◌<◌}
use mathlib.Core.Bool.{false}
use Rattle.tree_lists.specs.TreeLists.{wrong_tree}
use Rattle.tree_lists.proofs.checked.some_wrong.Given as goal

abbrev pub invariant-loop-i : goal.invariant-loop-i
invariant-loop-i l = (j : ℕ) → j < l.i → wrong_tree l.list l.n j ≡ false
