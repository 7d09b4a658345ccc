-- The invariant: the nodes before `v` are summed.
-- Assumes nothing.
use Prim.Native.Nat.{◌≤◌}
use mathlib.Core.Path.{◌≡◌}
use Rattle.sums.specs.Sum.{sum}
use Rattle.claims.specs.lemmas.SumsByNode.{node_sum}
use Rattle.claims.proofs.node_sums.tree_sum.Given as goal

abbrev pub invariant-loop-v : goal.invariant-loop-v
invariant-loop-v l = (l.total ≡ sum l.v (node_sum l.work l.step l.n l.parents)) × (l.total ≤ 699170560)
