-- What is known where the search needs a hint.
-- Assumes nothing.
use Prim.Native.Nat.{ℕ}
use mathlib.Core.Path.{◌∙◌, ap}
use mathlib.Core.List.{List}
use native.Mathlib.Omega.{arith}
use lib.ListN.{set, length-replicate}
use Rattle.sums.specs.theorems.ListLaws.{in_front_none, in_front_next}
use Rattle.table_words.specs.Sizes.{tips_most}
use Rattle.views.proofs.marking.marks_for.Goals as goal

pub loop-x-init : goal.loop-x-init
loop-x-init c = in_front_none _ _

pub loop-x-preserved : goal.loop-x-preserved
loop-x-preserved c =
    let l = c.loop-x in
    ap (λ (m : List ℕ). set m l.x c.mark_of.result) l.invariant
    ∙ in_front_next l.x _ _ _ (omega (arith, c.loop-x-test.true, c.requires, length-replicate {A = ℕ} tips_most 0)) c.mark_of.ensures
