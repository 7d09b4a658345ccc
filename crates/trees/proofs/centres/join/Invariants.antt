-- The invariant: the three nodes climbed to have the centre of the three given. The measure is their sum.
-- Assumes nothing.
use Prim.Native.Nat.{◌+◌}
use mathlib.Core.Path.{◌≡◌}
use Rattle.trees.specs.lemmas.Climbing.{Climbable, join_of}
use Rattle.trees.proofs.centres.join.Given as goal

abbrev pub invariant-loop-x : goal.invariant-loop-x
invariant-loop-x l = Climbable l.parents l.x l.y l.z × (join_of l.parents l.x l.y l.z ≡ join_of l.parents l.a l.b l.c)

abbrev pub decreases-loop-x : goal.decreases-loop-x
decreases-loop-x l = l.x + l.y + l.z
