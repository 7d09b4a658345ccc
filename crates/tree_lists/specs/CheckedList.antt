-- What the check of a list answers (docs/SPECIFICATION.md, 'List check').
-- Assumes nothing.
use Rattle.std.specs.Prelude.{List, ℕ, ◌+◌, replicate}
use Rattle.sums.specs.Lists.{in_front}
use Rattle.tree_check.specs.Table.{tips}
use Rattle.tree_check.specs.Refusals.{refusal, if_accepted}
use Rattle.tree_lists.specs.declared.checked.TreeList.{TreeList}
use Rattle.tree_lists.specs.TreeLists.{trees_of, start_of, tree_at, edges_at, largest, list_order}

-- how many trees, their tips, the edges of the largest, where each starts, and where they end
abbrev pub measured_list : List ℕ → TreeList
measured_list list = record {
  refusal = 0;
  trees = trees_of list;
  tips = tips (tree_at list 0);
  edges = largest (trees_of list) (edges_at list);
  starts = in_front (trees_of list + 1) (start_of list) (replicate 17 0);
}

-- the number of a refused list, with zeros
abbrev pub refused_list : ℕ → TreeList
refused_list number = record { refusal = number; trees = 0; tips = 0; edges = 0; starts = replicate 17 0 }

unfoldable pub checked_list : List ℕ → TreeList
checked_list list = let number = refusal (list_order list) in if_accepted number (measured_list list) (refused_list number)
