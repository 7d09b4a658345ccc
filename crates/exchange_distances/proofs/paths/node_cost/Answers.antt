-- Every product is a part of the cost, which is small.
-- Assumes nothing.
use mathlib.Core.Path.{refl}
use native.Mathlib.Omega.{arith}
use Rattle.exchanges.specs.theorems.PathSum.{cost}
use Rattle.exchange_distances.specs.lemmas.CostRoom.{CostParts, cost-parts}
use Rattle.exchange_distances.proofs.paths.node_cost.Goals.{Start}
use Rattle.exchange_distances.proofs.paths.node_cost.Goals as goal

parts : (c : Start) → CostParts c.args.n c.args.e c.args.f c.args.q
parts c = cost-parts _ _ _ _ c.requires

pub overflow_mul-result : goal.overflow_mul-result
overflow_mul-result c = omega (arith, parts c)

pub overflow_mul-result-2 : goal.overflow_mul-result-2
overflow_mul-result-2 c = omega (arith, parts c)

pub overflow_mul-result-3 : goal.overflow_mul-result-3
overflow_mul-result-3 c = omega (arith, parts c)

pub overflow_mul-result-4 : goal.overflow_mul-result-4
overflow_mul-result-4 c = omega (arith, parts c)

pub overflow_mul-result-5 : goal.overflow_mul-result-5
overflow_mul-result-5 c = omega (arith, parts c)

pub overflow_add-result : goal.overflow_add-result
overflow_add-result c = omega (arith, parts c)

pub overflow_mul-result-8 : goal.overflow_mul-result-8
overflow_mul-result-8 c = omega (arith, parts c)

pub overflow_mul-result-9 : goal.overflow_mul-result-9
overflow_mul-result-9 c = omega (arith, parts c)

pub overflow_add-result-3 : goal.overflow_add-result-3
overflow_add-result-3 c = omega (arith, parts c)

pub returns : goal.returns
returns c = unfold cost in refl
