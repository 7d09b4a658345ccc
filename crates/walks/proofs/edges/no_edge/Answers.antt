-- `no_edge` tells what its contract does, arm by arm.
-- Assumes nothing.
use Rattle.std.proofs.Common.{eq-eqb, ne_eqb}
use Rattle.walks.proofs.edges.no_edge.Goals as goal

pub returns-then-edge-eq0 : goal.returns-then-edge-eq0
returns-then-edge-eq0 c = rw (eq-eqb _ _ c.if-edge-eq0.true)

pub returns : goal.returns
returns c = rw (ne_eqb _ _ c.if-edge-eq0.false)
