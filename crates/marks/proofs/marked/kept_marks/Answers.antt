-- What is counted is whether each mark is 1.
-- Assumes nothing.
use Rattle.std.proofs.Common.{rules}
use Prim.Native.Nat.{ℕ}
use lib.Dec.{eqb}
use Rattle.marks.specs.Marks.{is_kept}
use Rattle.marks.proofs.marked.kept_marks.Goals as goal

pub returns : goal.returns
unfolding is_kept
returns c = c.count_of.ensures (λ (k : ℕ). eqb k 1) (λ k b h. search rules)
