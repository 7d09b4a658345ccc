-- The claim sums from the diagonals; what is taken off is part of what it is taken off.
-- Assumes nothing.
use native.Mathlib.Omega.{arith}
use Rattle.claims.specs.lemmas.NineCells.{all-le, nine_S2, nine_S3, less_S2, less_S3}
use Rattle.claims.proofs.nine.nine_terms.Goals as goal

pub overflow_sub-result : goal.overflow_sub-result
overflow_sub-result c =
    let a = c.three_diagonals-some.ensures in
    let b = c.three_diagonals-others.ensures in
    let s = c.args in
    omega (
      arith,
      nine_S2 s.x0 s.x1 s.x2 s.y0 s.y1 s.y2 s.z0 s.z1 s.z2 _ _ _ _
          a.0 b.0 a.1 b.1,
    )

pub overflow_mul-result-2 : goal.overflow_mul-result-2
overflow_mul-result-2 c =
    let a = c.three_diagonals-some.ensures in
    let b = c.three_diagonals-others.ensures in
    let s = c.args in
    omega (
      arith,
      all-le s.x0 s.x1 s.x2 s.y0 s.y1 s.y2 s.z0 s.z1 s.z2 _ _
          c.requires a.2 b.2,
    )

pub overflow_sub-result-2 : goal.overflow_sub-result-2
overflow_sub-result-2 c =
    let a = c.three_diagonals-some.ensures in
    let b = c.three_diagonals-others.ensures in
    let s = c.args in
    omega (
      arith,
      nine_S3 s.x0 s.x1 s.x2 s.y0 s.y1 s.y2 s.z0 s.z1 s.z2 _ _ _ _
          a.0 b.0 a.1 b.1,
    )

pub returns : goal.returns
returns c =
    let a = c.three_diagonals-some.ensures in
    let b = c.three_diagonals-others.ensures in
    let s = c.args in (
      less_S2 s.x0 s.x1 s.x2 s.y0 s.y1 s.y2 s.z0 s.z1 s.z2 _ _ _ _
          a.0 b.0 a.1 b.1,
      less_S3 s.x0 s.x1 s.x2 s.y0 s.y1 s.y2 s.z0 s.z1 s.z2 _ _ _ _
          a.0 b.0 a.1 b.1,
    )
