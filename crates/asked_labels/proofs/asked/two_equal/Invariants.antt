-- The invariant: no label before `i` equals an earlier one.
-- Assumes nothing.
use Prim.Native.Nat.{ℕ, ◌<◌}
use mathlib.Core.Path.{◌≡◌}
use mathlib.Core.Bool.{false}
use lib.Dec.{eqb}
use Rattle.sums.specs.Tests.{some}
use Rattle.tree_check.specs.Table.{word}
use Rattle.asked_labels.proofs.asked.two_equal.Given as goal

abbrev pub invariant-loop-i : goal.invariant-loop-i
invariant-loop-i l = (k : ℕ) → k < l.i → some k (λ j. eqb (word l.asked j) (word l.asked k)) ≡ false
