-- The invariant: each parent before node `i`'s stands before its node.
-- Assumes nothing.
use Prim.Native.Nat.{ℕ, ◌≤◌, ◌<◌}
use Rattle.tree_check.specs.Table.{word}
use Rattle.code_lists.proofs.fits.parents_fit.Given as goal

abbrev pub invariant-loop-i : goal.invariant-loop-i
invariant-loop-i l = (k : ℕ) → 1 ≤ k → k < l.i → word l.parents k < k
