-- Past the end a word reads as 0.
-- Assumes nothing.
use native.Mathlib.Omega.{arith}
use Prim.Native.Nat.{ℕ}
use lib.ListN.{get_or-eq_default}
use Rattle.tree_check.specs.Table.{nodes}
use Rattle.tree_lists.proofs.cut.edges_of.Goals as goal

pub returns-then-words-lt2 : goal.returns-then-words-lt2
unfolding nodes
returns-then-words-lt2 c = (omega (arith, get_or-eq_default {A = ℕ} c.args.words.now 0 {n = 1} (omega (arith, c.if-words-lt2.true))), omega arith)

pub returns-then-m-eq0 : goal.returns-then-m-eq0
unfolding nodes
returns-then-m-eq0 c = (omega (arith, c.if-m-eq0.true, c.from-m.ensures), omega arith)

pub returns : goal.returns
unfolding nodes
returns c = (omega (arith, c.from-m.ensures), omega (arith, c.type_inv.words 1))
