-- What is counted is whether each mark is above 1.
-- Assumes nothing.
use Rattle.std.proofs.Common.{rules}
use Prim.Native.Nat.{ℕ}
use lib.Dec.{ltb}
use Rattle.marks.proofs.marked.wrong_marks.Goals as goal

pub returns : goal.returns
returns c = c.count_of.ensures (λ (k : ℕ). ltb 1 k) (λ k b h. search rules)
