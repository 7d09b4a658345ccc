-- The invariant: `inner` begins with those of the nodes before `v - 1` that have three codes or more into them.
-- Assumes nothing.
use Prim.Native.Nat.{◌-◌, ◌≤◌}
use lib.ListN.{length}
use Rattle.code_lists.specs.lemmas.InnerNodes.{InnerIn}
use Rattle.code_lists.proofs.inner.inner_nodes.Given as goal

abbrev pub invariant-loop-v : goal.invariant-loop-v
invariant-loop-v l = (l.v - 1 ≤ length l.starts - 1) × InnerIn l.starts l.initial.inner (l.v - 1) l.inner l.count
