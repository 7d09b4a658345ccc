-- The path is numbered first, from z on, then the other nodes in their order.
-- Assumes nothing.
use lib.ListN.{length}
use Rattle.rerooting.specs.lemmas.Renumbering.{PathNumbered, OffPath}
use Rattle.rerooting.proofs.numbers.new_numbers.Given as goal

abbrev pub invariant-loop-v : goal.invariant-loop-v
invariant-loop-v l = PathNumbered l.parents (length l.parents) l.z l.v l.i l.news

abbrev pub decreases-loop-v : goal.decreases-loop-v
decreases-loop-v l = l.v

abbrev pub invariant-loop-w : goal.invariant-loop-w
invariant-loop-w l = OffPath l.parents (length l.parents) l.z l.w l.i l.news
