-- The invariant: each label before `label-index` is 65535 or below n.
-- Assumes nothing.
use Prim.Native.Nat.{ℕ, ◌<◌}
use mathlib.Core.Path.{◌≡◌}
use mathlib.Core.Bool.{true}
use Rattle.tree_check.specs.Table.{word}
use Rattle.tree_check.specs.TreeOrder.{label_fits}
use Rattle.tree_check.proofs.table.labels_in_range.Given as goal

abbrev pub invariant-loop-label : goal.invariant-loop-label
invariant-loop-label l = (k : ℕ) → k < l.label-index → label_fits l.n (word l.labels k) ≡ true
