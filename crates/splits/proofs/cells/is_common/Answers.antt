-- `is_common` tells what the two tests do, arm by arm.
-- Assumes nothing.
use mathlib.Core.Path.{refl, sym, ◌∙◌}
use native.Mathlib.Omega.{arith}
use borrow.Author.Tests.{not-true}
use Rattle.splits.specs.lemmas.SplitCells.{common_row}
use Rattle.splits.proofs.lemmas.SplitLoops.{row_room}
use Rattle.std.proofs.Common.{ap}
use Rattle.std.specs.Prelude.{not}
use Rattle.splits.proofs.cells.is_common.Goals as goal

pub returns-then-not-is_first : goal.returns-then-not-is_first
unfolding common_row
returns-then-not-is_first c = rw (sym c.is_first.ensures ∙ not-true c.is_first.result (ap not c.if-not-is_first.true)) refl

pub overflow_mul-i : goal.overflow_mul-i
overflow_mul-i c =
    let p = c.requires in
    omega (arith, (row_room _ _ _ p.0 p.1 _ p.2).low)

pub occurs_row-requires : goal.occurs_row-requires
occurs_row-requires c =
    let p = c.requires in
    (row_room _ _ _ p.0 p.1 _ p.2, p.1.some)

pub returns : goal.returns
unfolding common_row
returns c =
    c.occurs_row.ensures
    ∙ sym (rw (sym c.is_first.ensures ∙ c.if-not-is_first.false) refl)
