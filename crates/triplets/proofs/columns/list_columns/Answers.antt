-- What is known where the search needs a hint.
-- Assumes nothing.
use mathlib.Core.Path.{refl, ap}
use Prim.Native.Nat.{ℕ, ◌-◌}
use native.Mathlib.Omega.{arith}
use Rattle.tree_pairs.proofs.lemmas.EdgeRows.{parent-word}
use Rattle.triplets.proofs.lemmas.ListedColumns.{listed_none, listed_skip, listed_more}
use Rattle.triplets.proofs.columns.list_columns.Goals.{else-cell_count-ge2, then-cell_count-ge2}
use Rattle.triplets.proofs.columns.list_columns.Goals as goal

-- ---- the needs

pub loop-i-init : goal.loop-i-init
loop-i-init c =
    let s = c.requires in
    listed_none _ _ _ _ s.columns_long s.above_long

pub overflow_sub-above : goal.overflow_sub-above
overflow_sub-above c =
    omega (arith, c.from.ensures, (parent-word _ c.requires.parents _ c.loop-i-test.true).0)

pub loop-i-preserved : goal.loop-i-preserved
loop-i-preserved c =
    let i = c.loop-i in
    let up = ap (λ (x : ℕ). x - 1) c.from.ensures in
    elim c.if-cell_count-ge2.branch [
      | then-cell_count-ge2 w ↦ rw w.count-is (listed_more _ _ _ _ _ _ i.invariant c.loop-i-test.true _ _ refl up
          (omega (arith, c.cell_count.ensures.0, w.if-cell_count-ge2.true)))
      | else-cell_count-ge2 w ↦ rw w.count-is (listed_skip _ _ _ _ _ _ i.invariant c.loop-i-test.true _ _ refl up
          (omega (arith, c.cell_count.ensures.0, w.if-cell_count-ge2.false)))
    ]
