-- A test that is passed is 1.
-- Assumes nothing.
use native.Mathlib.Omega.{arith}
use Rattle.canonical_copy.proofs.lemmas.Staying.{bit_rank, bit_branches, bit_none}
use Rattle.canonical_copy.proofs.branches.stays.Goals as goal

pub returns-then-rank-k : goal.returns-then-rank-k
returns-then-rank-k c = let a = c.args in bit_rank a.rank a.k a.branches (omega (arith, c.if-rank-k.true))

pub returns-then-branches-ge2 : goal.returns-then-branches-ge2
returns-then-branches-ge2 c = let a = c.args in bit_branches a.rank a.k a.branches (omega (arith, c.if-branches-ge2.true))

pub returns : goal.returns
returns c =
    let a = c.args in
    bit_none a.rank a.k a.branches (omega (arith, c.if-rank-k.false)) (omega (arith, c.if-branches-ge2.false))
