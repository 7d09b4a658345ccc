-- s² − s is s(s − 1), and the product is low.
-- Assumes nothing.
use mathlib.Core.Path.{ap}
use Prim.Native.Nat.{ℕ, ◌*◌, ◌-◌}
use native.Mathlib.Omega.{arith}
use Rattle.shapes.specs.theorems.TripletCounts.{edge_term}
use Rattle.triplets.proofs.lemmas.EdgeSums.{square_low, square_less, edge_term_most}
use Rattle.triplets.proofs.edges.edge_term.Goals as goal

pub overflow_mul-result : goal.overflow_mul-result
overflow_mul-result c = omega (arith, (square_low c.args.s (omega (arith, c.requires))).0)

pub overflow_sub-result : goal.overflow_sub-result
overflow_sub-result c = (square_low c.args.s (omega (arith, c.requires))).1

pub overflow_mul-result-2 : goal.overflow_mul-result-2
overflow_mul-result-2 c =
    let m = edge_term_most c.args.s c.args.p c.requires.0 c.requires.1 in
    unfold edge_term in omega (arith, m, ap (λ (x : ℕ). x * (c.args.p - c.args.s)) (square_less c.args.s))

pub returns : goal.returns
returns c = unfold edge_term in ap (λ (x : ℕ). x * (c.args.p - c.args.s)) (square_less c.args.s)
