-- The invariant: the codes of the edges before node i's are placed.
-- Assumes nothing.
use Prim.Native.Nat.{◌*◌, ◌-◌}
use Rattle.code_lists.specs.lemmas.EdgePlaces.{Placed}
use Rattle.code_lists.proofs.lists.edge_list.Given as goal

abbrev pub invariant-loop-i : goal.invariant-loop-i
invariant-loop-i l = Placed l.parents l.initial.edges (2 * (l.i - 1)) l.next l.edges
