-- The products are low.
-- Assumes nothing.
use mathlib.Core.Path.{refl}
use native.Mathlib.Omega.{arith}
use Rattle.sums.specs.theorems.Products.{product_le}
use Rattle.kept_triplets.specs.lemmas.Terms.{apart_most}
use Rattle.kept_triplets.proofs.terms.apart_term.Goals as goal

pub overflow_mul-result : goal.overflow_mul-result
overflow_mul-result c = let a = c.args in omega (arith, product_le 256 256 a.x a.y c.requires.1 c.requires.2)

pub overflow_mul-result-2 : goal.overflow_mul-result-2
overflow_mul-result-2 c = let a = c.args in omega (arith, apart_most a.i a.x a.y c.requires.0 c.requires.1 c.requires.2)

pub returns : goal.returns
returns c = refl
