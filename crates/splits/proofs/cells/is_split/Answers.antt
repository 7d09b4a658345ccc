-- `is_split` tells what `split_size` does, arm by arm.
-- Assumes nothing.
use mathlib.Core.Path.{refl}
use borrow.Author.Tests.{lt-leb, le-leb}
use Rattle.splits.specs.lemmas.SplitCells.{split_size}
use Rattle.splits.proofs.cells.is_split.Goals as goal

pub returns-then-s-lt2 : goal.returns-then-s-lt2
unfolding split_size
returns-then-s-lt2 c = rw (← c.cell_count-s.ensures.0, lt-leb _ _ c.if-s-lt2.true) refl

pub returns : goal.returns
unfolding split_size
returns c = rw (← c.cell_count-s.ensures.0, le-leb _ _ c.if-s-lt2.false) refl
