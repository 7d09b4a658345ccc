-- i² − i is i(i − 1), and the product is low.
-- Assumes nothing.
use mathlib.Core.Path.{ap}
use Prim.Native.Nat.{ℕ, ◌+◌, ◌*◌, ◌-◌, ◌≤◌}
use native.Mathlib.Omega.{arith}
use Rattle.shapes.specs.theorems.TripletCounts.{alike_term}
use Rattle.triplets.proofs.lemmas.EdgeSums.{square_low, square_less}
use Rattle.triplets.proofs.lemmas.PairCells.{alike_most}
use Rattle.triplets.proofs.pairs.alike_term.Goals.{Start}
use Rattle.triplets.proofs.pairs.alike_term.Goals as goal

low : (c : Start) → c.args.i ≤ 256
low c = omega (arith, c.requires.in_row, c.requires.in_column, c.requires.in_whole, c.requires.few)

pub overflow_mul-result : goal.overflow_mul-result
overflow_mul-result c = omega (arith, (square_low _ (low c)).0)

pub overflow_sub-result : goal.overflow_sub-result
overflow_sub-result c = (square_low _ (low c)).1

pub overflow_mul-result-2 : goal.overflow_mul-result-2
overflow_mul-result-2 c =
    let a = c.args in
    let m = alike_most _ _ _ _ c.requires in
    unfold alike_term in
    omega (arith, m, ap (λ (x : ℕ). x * (a.w + a.i - a.r - a.c)) (square_less a.i))

pub returns : goal.returns
returns c =
    let a = c.args in
    unfold alike_term in ap (λ (x : ℕ). x * (a.w + a.i - a.r - a.c)) (square_less a.i)
