-- The products stay low.
-- Assumes nothing.
use mathlib.Core.Path.{ap}
use Prim.Native.Nat.{ℕ, ◌+◌, ◌*◌}
use native.Mathlib.Omega.{arith}
use Rattle.claims.specs.lemmas.SizeTerms.{squares_most, size_term_most}
use Rattle.claims.proofs.node_sums.size_term.Goals as goal

pub overflow_mul-result : goal.overflow_mul-result
overflow_mul-result c = omega (arith, squares_most _ _ c.requires.0 c.requires.1)

pub overflow_mul-result-2 : goal.overflow_mul-result-2
overflow_mul-result-2 c = omega (arith, squares_most _ _ c.requires.0 c.requires.1)

pub overflow_add-result : goal.overflow_add-result
overflow_add-result c = omega (arith, squares_most _ _ c.requires.0 c.requires.1)

pub overflow_mul-result-3 : goal.overflow_mul-result-3
overflow_mul-result-3 c = omega (arith, size_term_most _ _ _ c.requires.2 c.requires.0 c.requires.1)

pub returns : goal.returns
returns c =
    let a = c.args in (
      ap (λ (p : ℕ). p * (a.rest * a.rest + a.s * a.s)) c.requires.2,
      size_term_most _ _ _ c.requires.2 c.requires.0 c.requires.1,
    )
