-- Products of cells of at most 256 fit.
-- Assumes nothing.
use Prim.Native.Nat.{◌*◌, ◌≤◌}
use mathlib.Core.Path.{refl}
use native.Mathlib.Omega.{arith}
use Rattle.claims.specs.lemmas.NineCells.{product, weighed_product, pair_le, diagonal_le, weighed_le}
use Rattle.claims.proofs.nine.three_diagonals.Goals.{Start}
use Rattle.claims.proofs.nine.three_diagonals.Goals as goal

first-pair : (c : Start) → c.args.p0 * c.args.q0 ≤ 65536
first-pair c = pair_le c.args.p0 c.args.q0 c.args.r0 c.requires.x0_le c.requires.x1_le c.requires.x2_le

first-product : (c : Start) → product c.args.p0 c.args.q0 c.args.r0 ≤ 16777216
first-product c = diagonal_le c.args.p0 c.args.q0 c.args.r0 c.requires.x0_le c.requires.x1_le c.requires.x2_le

first-weighed : (c : Start) → weighed_product c.args.p0 c.args.q0 c.args.r0 ≤ 12884901888
first-weighed c = weighed_le c.args.p0 c.args.q0 c.args.r0 c.requires.x0_le c.requires.x1_le c.requires.x2_le

second-pair : (c : Start) → c.args.p1 * c.args.q1 ≤ 65536
second-pair c = pair_le c.args.p1 c.args.q1 c.args.r1 c.requires.y0_le c.requires.y1_le c.requires.y2_le

second-product : (c : Start) → product c.args.p1 c.args.q1 c.args.r1 ≤ 16777216
second-product c = diagonal_le c.args.p1 c.args.q1 c.args.r1 c.requires.y0_le c.requires.y1_le c.requires.y2_le

second-weighed : (c : Start) → weighed_product c.args.p1 c.args.q1 c.args.r1 ≤ 12884901888
second-weighed c = weighed_le c.args.p1 c.args.q1 c.args.r1 c.requires.y0_le c.requires.y1_le c.requires.y2_le

third-pair : (c : Start) → c.args.p2 * c.args.q2 ≤ 65536
third-pair c = pair_le c.args.p2 c.args.q2 c.args.r2 c.requires.z0_le c.requires.z1_le c.requires.z2_le

third-product : (c : Start) → product c.args.p2 c.args.q2 c.args.r2 ≤ 16777216
third-product c = diagonal_le c.args.p2 c.args.q2 c.args.r2 c.requires.z0_le c.requires.z1_le c.requires.z2_le

third-weighed : (c : Start) → weighed_product c.args.p2 c.args.q2 c.args.r2 ≤ 12884901888
third-weighed c = weighed_le c.args.p2 c.args.q2 c.args.r2 c.requires.z0_le c.requires.z1_le c.requires.z2_le

pub overflow_mul-a : goal.overflow_mul-a
overflow_mul-a c = omega (arith, first-pair c)

pub overflow_mul-a-2 : goal.overflow_mul-a-2
overflow_mul-a-2 c = omega (arith, first-product c)

pub overflow_mul-b : goal.overflow_mul-b
overflow_mul-b c = omega (arith, second-pair c)

pub overflow_mul-b-2 : goal.overflow_mul-b-2
overflow_mul-b-2 c = omega (arith, second-product c)

pub overflow_mul-c : goal.overflow_mul-c
overflow_mul-c c = omega (arith, third-pair c)

pub overflow_mul-c-2 : goal.overflow_mul-c-2
overflow_mul-c-2 c = omega (arith, third-product c)

pub overflow_add-result : goal.overflow_add-result
overflow_add-result c = omega (arith, first-product c, second-product c)

pub overflow_add-result-2 : goal.overflow_add-result-2
overflow_add-result-2 c = omega (arith, first-product c, second-product c, third-product c)

pub overflow_mul-result : goal.overflow_mul-result
overflow_mul-result c = omega (arith, first-weighed c)

pub overflow_mul-result-2 : goal.overflow_mul-result-2
overflow_mul-result-2 c = omega (arith, second-weighed c)

pub overflow_add-result-7 : goal.overflow_add-result-7
overflow_add-result-7 c = omega (arith, first-weighed c, second-weighed c)

pub overflow_mul-result-3 : goal.overflow_mul-result-3
overflow_mul-result-3 c = omega (arith, third-weighed c)

pub overflow_add-result-10 : goal.overflow_add-result-10
overflow_add-result-10 c = omega (arith, first-weighed c, second-weighed c, third-weighed c)

pub returns : goal.returns
returns c = (
  refl,
  refl,
  omega (arith, first-product c, second-product c, third-product c),
  omega (arith, first-weighed c, second-weighed c, third-weighed c),
)
