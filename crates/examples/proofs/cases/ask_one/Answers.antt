-- All words are lent.
-- Assumes nothing.
use mathlib.Core.Path.{sym}
use Prim.Native.Nat.{ℕ}
use lib.ListN.{length-replicate}
use Rattle.examples.proofs.cases.ask_one.Goals as goal

pub slice_bounds-ask_words-end : goal.slice_bounds-ask_words-end
slice_bounds-ask_words-end c = sym (length-replicate {A = ℕ} 1046529 0)
