-- The invariant: the terms of the sizes before `size-index` are added up.
-- Assumes nothing.
use Rattle.claims.specs.lemmas.SizeTerms.{SizeTerms}
use Rattle.claims.proofs.node_sums.node_term.Given as goal

abbrev pub invariant-loop-size : goal.invariant-loop-size
invariant-loop-size l = SizeTerms l.sizes l.codes l.size-index l.plus l.pairs
