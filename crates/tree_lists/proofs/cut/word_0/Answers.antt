-- Past the end a word reads as 0.
-- Assumes nothing.
use mathlib.Core.Path.{sym}
use Prim.Native.Nat.{ℕ}
use native.Mathlib.Omega.{arith}
use lib.ListN.{get_or-eq_default}
use Rattle.tree_check.specs.Table.{tips}
use borrow.Author.Rules.{rules}
use Rattle.tree_lists.proofs.cut.word_0.Goals as goal

pub returns-then-words-eq0 : goal.returns-then-words-eq0
unfolding tips
returns-then-words-eq0 c = sym (get_or-eq_default {A = ℕ} c.args.words.now 0 {n = 0} (omega (arith, c.if-words-eq0.true)))

pub returns : goal.returns
unfolding tips
returns c = search rules
