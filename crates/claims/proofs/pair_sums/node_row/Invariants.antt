-- The invariant: the pairs with the first `v-index` listed nodes of the second tree are summed.
-- Assumes nothing.
use Rattle.tree_check.specs.Table.{word}
use Rattle.claims.specs.lemmas.PairLoops.{TermsSummed}
use Rattle.claims.specs.lemmas.PairLoops.{row_s2, row_s3}
use Rattle.claims.proofs.pair_sums.node_row.Given as goal

abbrev pub invariant-loop-v : goal.invariant-loop-v
invariant-loop-v l = TermsSummed (λ k. row_s2 l.work l.width l.n l.rows l.second_parents (word l.inner k)) (λ k. row_s3 l.work l.width l.n l.rows l.second_parents (word l.inner k))
    l.v-index l.s2 l.s3
