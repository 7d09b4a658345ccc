-- All cells are lent.
-- Assumes nothing.
use mathlib.Core.Path.{sym}
use Prim.Native.Nat.{ℕ}
use lib.ListN.{length-replicate}
use Rattle.examples.proofs.cases.ask_two.Goals as goal

pub slice_bounds-ask_cells-end : goal.slice_bounds-ask_cells-end
slice_bounds-ask_cells-end c = sym (length-replicate {A = ℕ} 1046529 0)
