-- The invariant: the nodes below `c` have been placed.
-- Assumes nothing.
use Rattle.tree_check.specs.lemmas.TableParts.{table_of}
use Rattle.walks.specs.lemmas.Positions.{Reached}
use Rattle.walks.proofs.sizes.ends.Given as goal

abbrev pub invariant-loop-c : goal.invariant-loop-c
invariant-loop-c l = Reached (table_of l.n l.parents l.labels) l.c l.reach
