-- A place before the span, in it, and after it.
-- Assumes nothing.
use mathlib.Core.Path.{sym}
use native.Mathlib.Omega.{arith}
use Rattle.sums.specs.theorems.BitLaws.{bit-T, bit_no}
use Rattle.walks.specs.theorems.SpanLaws.{in_span, in_span-iff}
use Rattle.tree_pairs.proofs.rows_of_tips.within.Goals as goal

pub returns-then-at-begin : goal.returns-then-at-begin
returns-then-at-begin c =
    let a = c.args in
    sym (bit_no (in_span a.at a.begin a.end) (λ y.
    omega (arith, c.if-at-begin.true, (in_span-iff a.at a.begin a.end).0 y)))

pub returns-then-at-end : goal.returns-then-at-end
returns-then-at-end c =
    let a = c.args in
    sym (bit-T (in_span a.at a.begin a.end)
    ((in_span-iff a.at a.begin a.end).1 (omega (arith, c.if-at-begin.false), omega (arith, c.if-at-end.true))))

pub returns : goal.returns
returns c =
    let a = c.args in
    sym (bit_no (in_span a.at a.begin a.end) (λ y.
    omega (arith, c.if-at-end.false, (in_span-iff a.at a.begin a.end).0 y)))
