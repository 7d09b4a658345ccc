-- The invariant: the pairs with the first tree's nodes before `v` are summed.
-- Assumes nothing.
use Prim.Native.Nat.{◌-◌}
use mathlib.Core.Path.{◌≡◌}
use lib.ListN.{length}
use Rattle.table_words.specs.Sizes.{tips_most}
use Rattle.claims.specs.lemmas.PairLoops.{TermsSummed}
use Rattle.claims.specs.lemmas.PairLoops.{node_s2, node_s3}
use Rattle.claims.proofs.pair_sums.all_pairs.Given as goal

abbrev pub invariant-loop-v : goal.invariant-loop-v
invariant-loop-v l = TermsSummed (node_s2 l.work (length l.second_parents - 1) l.n l.first_parents l.second_parents) (node_s3 l.work (length l.second_parents - 1) l.n l.first_parents l.second_parents)
    l.v l.s2 l.s3
    × (length l.sums ≡ tips_most)
    × (length l.totals ≡ tips_most)
    × (length l.down ≡ tips_most)
    × (length l.along ≡ tips_most)
    × (length l.dots ≡ tips_most)
