-- The two sums at the places.
-- Assumes nothing.
use mathlib.Core.Path.{ap₂}
use Prim.Native.Nat.{ℕ, ◌-◌}
use Rattle.tree_check.specs.Table.{word}
use Rattle.kept_triplets.proofs.terms.cell.Goals as goal

pub overflow_sub-result : goal.overflow_sub-result
overflow_sub-result c = rw (c.cell_index-2.ensures.0, c.cell_index.ensures.0) c.requires

pub returns : goal.returns
returns c = ap₂ (λ (x y : ℕ). word c.args.sums.now x - word c.args.sums.now y) c.cell_index.ensures.0 c.cell_index-2.ensures.0
