-- The invariant: the labels of the tips before `v` are in place.
-- Assumes nothing.
use Rattle.tree_check.specs.lemmas.TableParts.{table_of}
use Rattle.walks.specs.lemmas.Writing.{Written}
use Rattle.walks.proofs.walks.write_walk.Given as goal

abbrev pub invariant-loop-v : goal.invariant-loop-v
invariant-loop-v l = Written (table_of l.n l.parents l.labels) l.initial.cells l.v l.cells
