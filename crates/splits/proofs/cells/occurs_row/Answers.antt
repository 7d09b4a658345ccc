-- `occurs_row` tells what the three tests do, arm by arm.
-- Assumes nothing.
use mathlib.Core.Path.{refl, sym, ◌∙◌}
use borrow.Author.Tests.{eq-eqb, ne_eqb}
use Rattle.splits.specs.lemmas.SplitCells.{occurs_row}
use Rattle.splits.proofs.cells.occurs_row.Goals as goal

pub returns-then-shared_row : goal.returns-then-shared_row
unfolding occurs_row
returns-then-shared_row c = rw (sym c.shared_row.ensures ∙ c.if-shared_row.true) refl

pub returns-then-cell_count-kept : goal.returns-then-cell_count-kept
unfolding occurs_row
returns-then-cell_count-kept c =
    rw (
      sym c.shared_row.ensures ∙ c.if-shared_row.false,
      ne_eqb _ _ (λ q. c.if-cell_count-kept.true (c.cell_count.ensures.0 ∙ q)),
    ) refl

pub returns : goal.returns
unfolding occurs_row
returns c =
    c.apart_row.ensures ∙ sym (rw (
      sym c.shared_row.ensures ∙ c.if-shared_row.false,
      eq-eqb _ _ (sym c.cell_count.ensures.0 ∙ c.if-cell_count-kept.false),
    ) refl)
