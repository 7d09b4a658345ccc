-- The invariant: the sums are those of the rows before row `i + 1`.
-- Assumes nothing.
use mathlib.Core.Path.{◌≡◌}
use Prim.Native.Nat.{◌+◌}
use Rattle.sums.specs.Sum.{sum}
use Rattle.triplets.specs.lemmas.PairCells.{alike_row, triplets_apart_row}
use Rattle.triplets.proofs.pairs.pair_terms.Given as goal

abbrev pub invariant-loop-i : goal.invariant-loop-i
invariant-loop-i l = (l.alike ≡ sum l.i (λ r. alike_row l.work l.first_parents l.second_parents (r + 1)))
    × (l.apart ≡ sum l.i (λ r. triplets_apart_row l.work l.first_parents l.second_parents (r + 1)))
