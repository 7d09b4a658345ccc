-- The part of the words that is lent has its length.
-- Assumes nothing.
use mathlib.Core.Path.{sym}
use native.Mathlib.Omega.{arith}
use lib.Seq.{length-take-le}
use Rattle.examples.proofs.step.Goals as goal

pub slice_bounds-run-end-then-len-words : goal.slice_bounds-run-end-then-len-words
slice_bounds-run-end-then-len-words c = sym (length-take-le _ _ (omega arith))
