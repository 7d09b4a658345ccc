-- i² − i is i(i − 1), and the product is low.
-- Assumes nothing.
use mathlib.Core.Path.{ap}
use Prim.Native.Nat.{ℕ, ◌*◌}
use native.Mathlib.Omega.{arith}
use Rattle.triplets.proofs.lemmas.EdgeSums.{square_low, square_less}
use Rattle.kept_triplets.specs.lemmas.Terms.{alike_most}
use Rattle.kept_triplets.proofs.terms.alike_term.Goals as goal

pub overflow_mul-result : goal.overflow_mul-result
overflow_mul-result c = omega (arith, (square_low _ c.requires.0).0)

pub overflow_sub-result : goal.overflow_sub-result
overflow_sub-result c = (square_low _ c.requires.0).1

pub overflow_mul-result-2 : goal.overflow_mul-result-2
overflow_mul-result-2 c =
    let a = c.args in
    omega (arith, alike_most a.i a.z c.requires.0 c.requires.1, ap (λ (x : ℕ). x * a.z) (square_less a.i))

pub returns : goal.returns
returns c = let a = c.args in ap (λ (x : ℕ). x * a.z) (square_less a.i)
