-- A label past the marks reads as 0.
-- Assumes nothing.
use mathlib.Core.Path.{sym, ◌∙◌}
use Prim.Native.Nat.{ℕ}
use native.Mathlib.Omega.{arith}
use borrow.Author.Tests.{ne_eqb, le-ltb}
use lib.ListN.{get_or-eq_default}
use Rattle.tree_check.specs.Table.{word}
use Rattle.marks.specs.Marks.{is_kept}
use borrow.Author.Rules.{rules}
use Rattle.marks.proofs.marked.is_kept.Goals as goal

pub returns-then-x-marks : goal.returns-then-x-marks
unfolding is_kept
returns-then-x-marks c = search rules

pub returns-else-x-marks : goal.returns-else-x-marks
unfolding is_kept
returns-else-x-marks c =
    let s = c.args in
    le-ltb _ _ c.if-x-marks.false
    ∙ sym (ne_eqb (word s.marks.now s.x) 1 (λ e. omega (arith, e, get_or-eq_default {A = ℕ} s.marks.now 0 {n = s.x} c.if-x-marks.false)))
