-- The invariant: the starts up to tree `i` are listed, and `at` is where it starts.
-- Assumes nothing.
use mathlib.Core.Path.{◌≡◌}
use Rattle.tree_lists.specs.TreeLists.{start_of}
use Rattle.tree_lists.specs.lemmas.Starts.{TableStarts}
use Rattle.tree_lists.proofs.cut.starts_of.Given as goal

abbrev pub invariant-loop-i : goal.invariant-loop-i
invariant-loop-i l = (l.at ≡ start_of l.list l.i) × TableStarts l.list l.i l.starts
