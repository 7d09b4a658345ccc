-- The triplets of two trees, counted in the cells.
-- Assumes nothing.
use Rattle.std.specs.Prelude.{List, ℕ, ◌-◌}
use Rattle.std.proofs.Math.ListN.{length}
use Rattle.triplets.specs.declared.tables.TripletTable.{TripletTable}
use Rattle.triplets.specs.lemmas.EdgeSums.{SizeCells, edge_sum}
use Rattle.triplets.specs.lemmas.PairCells.{CrossedCells, alike_sum, apart_sum}
use Rattle.triplets.specs.lemmas.FormedTriplets.{formed_triplets, TripletsFit}

unfoldable pub triplets_counted : List ℕ → ℕ → List ℕ → List ℕ → TripletTable
triplets_counted work n ps qs =
    formed_triplets n (edge_sum work (length qs - 1) ps) (edge_sum work 1 qs) (alike_sum work ps qs) (apart_sum work ps qs)

pub record Countable (work : List ℕ) (n : ℕ) (ps qs : List ℕ) : Type 0 where
  pub cells : CrossedCells work ps qs
  pub first_sizes : SizeCells work (length qs - 1) ps
  pub second_sizes : SizeCells work 1 qs
  pub fits : TripletsFit n (edge_sum work (length qs - 1) ps) (edge_sum work 1 qs) (alike_sum work ps qs) (apart_sum work ps qs)
