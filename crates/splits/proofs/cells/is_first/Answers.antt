-- `is_first` tells what the three tests of `new_edge` do, arm by arm.
-- Assumes nothing.
use mathlib.Core.Path.{◌≡◌, sym, ◌∙◌, ap}
use mathlib.Core.Bool.{not}
use Prim.Native.Nat.{ℕ, ◌-◌}
use native.Mathlib.Omega.{arith}
use lib.ListN.{length}
use Rattle.tree_pairs.specs.lemmas.EdgeRows.{EdgeCells}
use Rattle.tree_pairs.proofs.lemmas.EdgeRows.{parent-word, edge-cells}
use Rattle.splits.specs.lemmas.SplitCells.{new_edge}
use Rattle.splits.proofs.lemmas.SplitLoops.{not_new, new_without_half, new_by_half}
use Rattle.splits.proofs.cells.is_first.Goals.{After-from-up, After-has_half}
use Rattle.splits.proofs.cells.is_first.Goals as goal

-- ---- what is known there

cells : (c : After-from-up)
    → (let s = c.args in
    EdgeCells (length s.work.now) s.step s.parents.now s.i (c.from-up.result - 1))
cells c =
    edge-cells _ _ _ c.requires.0 _ _ c.requires.1 (ap (λ (x : ℕ). x - 1) c.from-up.ensures)

by-half : (c : After-has_half)
    → (let s = c.args in
    not c.has_half.result ≡ new_edge s.kept s.work.now s.step s.parents.now s.i)
by-half c =
    new_by_half _ _ _ _ _ _ _ (cells (goal.at.After-has_half c).After-from-up).above c.is_new.ensures _ _ c.if-not-is_new.false
    c.cell_count.ensures.0 c.if-cell_count-kept.false c.has_half.ensures

-- ---- the needs

pub overflow_sub-up : goal.overflow_sub-up
overflow_sub-up c =
    omega (arith, c.from-up.ensures, (parent-word _ c.requires.0.parents _ c.requires.1).0)

pub overflow_mul-above : goal.overflow_mul-above
overflow_mul-above c = omega (arith, (cells c).low.1)

pub bounds-work-up : goal.bounds-work-up
bounds-work-up c = omega (arith, (cells (goal.at.bounds-work-up c).After-from-up).inside.1)

pub offset_bounds-work : goal.offset_bounds-work
offset_bounds-work c = omega (arith, (cells (goal.at.offset_bounds-work c).After-from-up).low.0)

pub bounds-work-i : goal.bounds-work-i
bounds-work-i c = omega (arith, (cells (goal.at.bounds-work-i c).After-from-up).inside.0)

pub returns-then-not-is_new : goal.returns-then-not-is_new
returns-then-not-is_new c =
    not_new _ _ _ _ _ _ _ (cells (goal.at.returns-then-not-is_new c).After-from-up).above c.is_new.ensures c.if-not-is_new.true

pub returns-then-cell_count-kept : goal.returns-then-cell_count-kept
returns-then-cell_count-kept c =
    new_without_half _ _ _ _ _ _ _ (cells (goal.at.returns-then-cell_count-kept c).After-from-up).above c.is_new.ensures _ c.if-not-is_new.false
    c.cell_count.ensures.0 c.if-cell_count-kept.true

pub returns-then-has_half : goal.returns-then-has_half
returns-then-has_half c = sym (ap not c.if-has_half.true) ∙ by-half (goal.at.returns-then-has_half c).After-has_half

pub returns : goal.returns
returns c = sym (ap not c.if-has_half.false) ∙ by-half (goal.at.returns c).After-has_half
