-- The invariant: the children below `c` are counted.
-- Assumes nothing.
use Rattle.canonical_copy.specs.lemmas.Staying.{BranchCounts}
use Rattle.canonical_copy.proofs.branches.branch_counts.Given as goal

abbrev pub invariant-loop-c : goal.invariant-loop-c
invariant-loop-c l = BranchCounts l.parents l.lows l.k l.c l.counts
