-- The calls on a tree with two labels exchanged: their orders and answers (docs/SPECIFICATION.md, 'Exchanges').
-- Assumes nothing.
use Rattle.std.specs.Prelude.{[], ◌∷◌, ℕ, replicate}
use Rattle.sums.specs.Lists.{in_order}
use Rattle.tree_check.specs.Table.{Table}
use Rattle.tree_check.specs.Refusals.{refusal, if_accepted}
use Rattle.tree_check.specs.TreeOrder.{tree_order}
use Rattle.asked_labels.specs.LabelOrder.{label_order}
use Rattle.exchanges.specs.Exchanges.{exchange_distance, tally}
use Rattle.exchange_distances.specs.declared.distances.ExchangeDistance.{ExchangeDistance}
use Rattle.exchange_distances.specs.declared.tallies.ExchangeAnswer.{ExchangeAnswer}

-- the table's order, then 10 and 11: the number, and the distance of the exchange of x and y or 0
unfoldable pub distance_answer : Table → ℕ → ℕ → ExchangeDistance
distance_answer t x y =
    let number = refusal (label_order t (x ∷ y ∷ [])) in
    record { refusal = number; distance = if_accepted number (exchange_distance t x y) 0 }

-- a number, and the eleven tallies or zeros
unfoldable pub tallies_under : ℕ → Table → ExchangeAnswer
tallies_under number t = record { refusal = number; tallies = if_accepted number (in_order 11 (tally t)) (replicate 11 0) }

-- the table's order
unfoldable pub tallies_answer : Table → ExchangeAnswer
tallies_answer t = tallies_under (refusal (tree_order t)) t
