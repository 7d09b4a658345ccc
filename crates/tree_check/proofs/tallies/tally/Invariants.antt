-- The invariant: the counts are those of the words before `word`.
-- Assumes nothing.
use Rattle.tree_check.specs.lemmas.Tally.{Tallied}
use Rattle.tree_check.proofs.tallies.tally.Given as goal

abbrev pub invariant-loop-word : goal.invariant-loop-word
invariant-loop-word l = Tallied l.words l.word-index l.counts
