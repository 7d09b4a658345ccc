-- The cost of a node and the cost of a path are small.
-- Assumes nothing.
use native.Mathlib.Omega.{arith}
use Rattle.exchange_distances.specs.lemmas.CostRoom.{cost_most_lem}
use Rattle.exchange_distances.proofs.paths.next_cost.Goals as goal

pub node_cost-requires : goal.node_cost-requires
node_cost-requires c = (c.requires c.if-v-p.false).0

pub overflow_add-result : goal.overflow_add-result
overflow_add-result c =
    let h = c.requires c.if-v-p.false in
    omega (arith, h.1, cost_most_lem _ _ _ _ h.0, c.node_cost.ensures)
