-- What is known where the search needs a hint.
-- Assumes nothing.
use Rattle.std.proofs.Common.{◌≡◌, ℕ, List, replicate, drop, ◌++◌, refl, sym, ◌∙◌, ap, zero, suc, rules}
use Rattle.std.specs.Prelude.{◌∷◌}
use Rattle.sums.specs.Lists.{in_order}
use Rattle.pair_check.specs.theorems.ClearingLaws.{too_few, enough}
use Rattle.pair_check.proofs.clearing.clear.Goals as goal

zeros : (k : ℕ) → replicate k 0 ≡ in_order k (λ i. 0)
unfolding in_order
zeros zero = refl
zeros (suc k) = ap (λ (x : List ℕ). 0 ∷ x) (zeros k)

pub returns-then-work-count : goal.returns-then-work-count
returns-then-work-count c = sym (too_few _ _ c.if-work-count.true)

pub returns : goal.returns
returns c =
    let e : c.fill.new.self ≡ replicate c.args.count 0 = search rules in
    ap (λ (x : List ℕ). x ++ drop c.args.count c.args.work.now) (e ∙ zeros c.args.count)
    ∙ sym (enough _ _ c.if-work-count.false)
