-- The call that tallies the exchanges of a tree: its order, its answer, and the work cells afterwards (docs/SPECIFICATION.md,
-- 'Exchanges').
-- Assumes nothing.
use Rattle.std.specs.Prelude.{List, ◌++◌, ℕ, length}
use Rattle.tree_check.specs.Table.{Table}
use Rattle.tree_check.specs.Refusals.{Rule, refusal, if_accepted}
use Rattle.tree_check.specs.TreeOrder.{tree_order}
use Rattle.pair_check.specs.PairOrder.{cells_needed, work_order}
use Rattle.pair_check.specs.Clearing.{zeroed}
use Rattle.exchange_distances.specs.declared.tallies.ExchangeAnswer.{ExchangeAnswer}
use Rattle.exchange_distances.specs.ExchangeAnswers.{tallies_under}

-- the table's order, then 9: there are fewer than (m − 1)(m − 1) work cells
unfoldable pub exchange_order : Table → ℕ → List Rule
exchange_order t cells = tree_order t ++ work_order t t cells

-- the number, and the eleven tallies or zeros
unfoldable pub exchange_answer : Table → ℕ → ExchangeAnswer
exchange_answer t cells = tallies_under (refusal (exchange_order t cells)) t

-- the cells after the call: the first (m − 1)(m − 1) are 0, later ones stay; a refusal leaves every cell as it was
unfoldable pub after_exchanges : Table → List ℕ → List ℕ
after_exchanges t work = if_accepted (refusal (exchange_order t (length work))) (zeroed (cells_needed t t) work) work
