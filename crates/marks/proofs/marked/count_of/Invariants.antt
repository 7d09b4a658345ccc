-- The invariant: `total` counts the marks before `mark-index` that pass.
-- Assumes nothing.
use mathlib.Core.Path.{◌≡◌}
use mathlib.Core.Bool.{Bool}
use Prim.Native.Nat.{ℕ, ◌≤◌}
use Rattle.sums.specs.Counts.{count}
use Rattle.tree_check.specs.Table.{word}
use Rattle.marks.proofs.marked.count_of.Given as goal

abbrev pub invariant-loop-mark : goal.invariant-loop-mark
invariant-loop-mark g l = (l.total ≤ l.mark-index)
    × ((q : ℕ → Bool) → ((k : ℕ) (b : Bool) → goal.F-post g l.test k b → b ≡ q k) → l.total ≡ count l.mark-index (λ x. q (word l.marks x)))
