-- The invariant: the sums are those of the columns listed before `q`.
-- Assumes nothing.
use mathlib.Core.Path.{◌≡◌}
use Rattle.triplets.specs.lemmas.ListedRows.{alike_listed, apart_listed}
use Rattle.triplets.proofs.pairs.row_terms.Given as goal

abbrev pub invariant-loop-q : goal.invariant-loop-q
invariant-loop-q l = (l.alike ≡ alike_listed l.work l.base l.up l.columns l.above l.q) × (l.apart ≡ apart_listed l.work l.base l.up l.columns l.above l.q)
