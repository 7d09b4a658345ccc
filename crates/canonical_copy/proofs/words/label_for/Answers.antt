-- A rank below k is the label, or there is none.
-- Assumes nothing.
use native.Mathlib.Omega.{arith}
use Rattle.canonical_copy.proofs.lemmas.Writing.{label_rank, label_inner}
use Rattle.canonical_copy.proofs.words.label_for.Goals as goal

pub returns-then-rank-k : goal.returns-then-rank-k
returns-then-rank-k c = label_rank c.args.rank c.args.k c.if-rank-k.true

pub returns : goal.returns
returns c = label_inner c.args.rank c.args.k (omega (arith, c.if-rank-k.false))
