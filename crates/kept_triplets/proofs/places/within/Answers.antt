-- Before, within, after.
-- Assumes nothing.
use mathlib.Core.Path.{sym}
use native.Mathlib.Omega.{arith}
use Rattle.sums.specs.theorems.BitLaws.{bit-T, bit_no}
use Rattle.walks.specs.theorems.SpanLaws.{in_span, in_span-iff}
use Rattle.kept_triplets.proofs.places.within.Goals as goal

pub returns-then-at-begin : goal.returns-then-at-begin
returns-then-at-begin c = sym (bit_no (in_span _ _ _) (λ t. absurd (omega (arith, ((in_span-iff _ _ _).0 t).0, c.if-at-begin.true))))

pub returns-then-at-end : goal.returns-then-at-end
returns-then-at-end c = sym (bit-T (in_span _ _ _) ((in_span-iff _ _ _).1 (omega (arith, c.if-at-begin.false), c.if-at-end.true)))

pub returns : goal.returns
returns c = sym (bit_no (in_span _ _ _) (λ t. absurd (omega (arith, ((in_span-iff _ _ _).0 t).1, c.if-at-end.false))))
