-- The triplet table of a pair call (docs/SPECIFICATION.md, 'Triplet table').
-- Assumes nothing.
use Rattle.std.specs.Prelude.{ℕ, ◌+◌}
use Rattle.tree_check.specs.Table.{Table}
use Rattle.tree_check.specs.Refusals.{refusal, if_accepted}
use Rattle.counting.specs.declared.Case.TheVariants.{A, B, C, D, E}
use Rattle.counting.specs.Triplets.{triplets}
use Rattle.pair_check.specs.PairOrder.{cells_order}
use Rattle.triplets.specs.declared.tables.TripletTable.{TripletTable}

-- how many sets of three labels the two trees put in each case, and the distance B + C + D
abbrev pub triplets_of_pair : Table → Table → TripletTable
triplets_of_pair t u = record {
  refusal = 0;
  a = triplets t u A;
  b = triplets t u B;
  c = triplets t u C;
  d = triplets t u D;
  e = triplets t u E;
  distance = triplets t u B + triplets t u C + triplets t u D;
}

-- the number of a refused pair, with zeros
abbrev pub refused_triplets : ℕ → TripletTable
refused_triplets number = record { refusal = number; a = 0; b = 0; c = 0; d = 0; e = 0; distance = 0 }

-- of all labels: the call takes no marks
unfoldable pub triplet_answer : Table → Table → ℕ → TripletTable
triplet_answer t u cells =
    let number = refusal (cells_order t u cells) in if_accepted number (triplets_of_pair t u) (refused_triplets number)
