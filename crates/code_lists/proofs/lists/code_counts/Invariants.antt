-- The invariant: the codes of the edges before node i's are counted.
-- Assumes nothing.
use Prim.Native.Nat.{◌*◌, ◌-◌}
use Rattle.code_lists.specs.lemmas.CodeCounts.{CountedCodes}
use Rattle.code_lists.proofs.lists.code_counts.Given as goal

abbrev pub invariant-loop-i : goal.invariant-loop-i
invariant-loop-i l = CountedCodes l.parents (λ v. 0) (2 * (l.i - 1)) l.counts
