-- The invariant: the pairs of y with the labels before that of `tip` are counted.
-- Assumes nothing.
use Rattle.exchange_distances.specs.lemmas.TallyLoops.{falls_at, CountedTallies}
use Rattle.exchange_distances.proofs.pairs.tally_row.Given as goal

abbrev pub invariant-loop-tip : goal.invariant-loop-tip
invariant-loop-tip l = CountedTallies (falls_at l.whole l.sets l.labelled l.costs) l.tip-index l.initial.tallies l.tallies
