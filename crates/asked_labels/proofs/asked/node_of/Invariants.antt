-- The invariant: `at` is the last node below `v` with the label x.
-- Assumes nothing.
use mathlib.Core.Path.{◌≡◌}
use Rattle.tree_check.specs.Table.{word, node_below}
use Rattle.asked_labels.proofs.asked.node_of.Given as goal

abbrev pub invariant-loop-v : goal.invariant-loop-v
invariant-loop-v l = l.at ≡ node_below (word l.labels) l.v l.x
