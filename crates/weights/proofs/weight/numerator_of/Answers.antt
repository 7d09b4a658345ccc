-- What is known where the search needs a hint.
-- Assumes nothing.
use mathlib.Core.Path.{sym, ◌∙◌, ap}
use native.Mathlib.Omega.{arith}
use borrow.Author.Count.{below_more}
use lib.Ieee.{Float, eq, of_bits}
use Rattle.weights.specs.Weights.{over256, numerator_of}
use Rattle.sums.specs.theorems.TestLaws.{first_found, first_none}
use Rattle.weights.proofs.lemmas.ExactProducts.{quotient}
use Rattle.weights.proofs.weight.numerator_of.Goals as goal

pub returns-then-p-k : goal.returns-then-p-k
unfolding numerator_of of_bits
returns-then-p-k c =
    sym (first_found 257 (λ j. eq c.args.p (over256 j)) c.loop-k.k c.loop-k-test.true
    (ap (λ (y : Float). eq c.args.p y) (sym (quotient c.loop-k.k (omega (arith, c.loop-k-test.true))))
    ∙ c.if-p-k.true) c.loop-k.invariant)

pub loop-k-preserved : goal.loop-k-preserved
unfolding of_bits
loop-k-preserved c =
    below_more _ _ c.loop-k.invariant
    (ap (λ (y : Float). eq c.args.p y) (sym (quotient c.loop-k.k (omega (arith, c.loop-k-test.true)))) ∙ c.if-p-k.false)

pub returns : goal.returns
unfolding numerator_of
returns c =
    let l = c.loop-k in
    sym (first_none 257 (λ j. eq c.args.p (over256 j)) (λ j m. l.invariant j (omega (arith, c.loop-k-test.false))))
