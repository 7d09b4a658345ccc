-- What is known where the search needs a hint.
-- Assumes nothing.
use mathlib.Core.Path.{◌≡◌}
use native.Mathlib.Omega.{arith}
use lib.ListN.{length}
use mathlib.Core.Path.{sym, ◌∙◌}
use Rattle.sums.specs.theorems.TestLaws.{first_found, first_none}
use Rattle.canonical_copy.proofs.lemmas.Ranks.{none_next}
use Rattle.canonical_copy.proofs.ranks.first_kept.Goals as goal

pub loop-x-init : goal.loop-x-init
loop-x-init c = λ j l. absurd (omega arith)

pub returns-then-is_kept : goal.returns-then-is_kept
returns-then-is_kept c =
    let l = c.loop-x in
    sym (first_found _ _ l.x c.loop-x-test.true (sym c.is_kept.ensures ∙ c.if-is_kept.true) l.invariant)

pub loop-x-preserved : goal.loop-x-preserved
loop-x-preserved c =
    let l = c.loop-x in
    none_next _ l.x l.invariant (sym c.is_kept.ensures ∙ c.if-is_kept.false)

pub returns : goal.returns
returns c =
    let l = c.loop-x in
    let e : l.x ≡ length c.args.marks.now = omega (arith, c.loop-x-test.false) in
    sym (first_none _ _ (λ j q. l.invariant j (omega (arith, q, e))))
