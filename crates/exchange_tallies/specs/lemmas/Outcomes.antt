-- What the call gives, as its code finds it.
-- Assumes nothing.
use Rattle.std.specs.Prelude.{◌≡◌, ℕ, length}
use mathlib.Core.List.{List}
use Rattle.tree_check.specs.Table.{Table}
use Rattle.exchange_distances.specs.declared.tallies.ExchangeAnswer.{ExchangeAnswer}
use Rattle.exchange_tallies.specs.ExchangeTallies.{exchange_answer, after_exchanges}

abbrev pub TalliesAnswered : Table → List ℕ → ExchangeAnswer → List ℕ → Type 0
TalliesAnswered t work r new = (r ≡ exchange_answer t (length work)) × (new ≡ after_exchanges t work)
