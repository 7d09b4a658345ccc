-- The two trees are lent as parts of the list.
-- Assumes nothing.
use mathlib.Core.Path.{◌≡◌}
use mathlib.Core.List.{List}
use Prim.Native.Nat.{ℕ, ◌+◌, ◌-◌, ◌≤◌, ◌<◌}
use native.Mathlib.Omega.{arith}
use lib.ListN.{length, take, drop}
use Rattle.tree_check.specs.Table.{word}
use Rattle.tree_lists.specs.TreeLists.{trees_of, tree_at}
use Rattle.tree_lists.proofs.lemmas.Starts.{from_to, to_end, lent_tree}
use Rattle.median_tree.proofs.lemmas.Distances.{pair_ready, told_apart}
use Rattle.median_tree.proofs.summed.pair_distance.Goals.{After-slice_known-1}
use Rattle.median_tree.proofs.summed.pair_distance.Goals as goal

-- ---- a tree of the list lies within it

abbrev list_of : (c : After-slice_known-1) → List ℕ
list_of c = c.args.list.now

abbrev starts-of : (c : After-slice_known-1) → List ℕ
starts-of c = c.args.starts.now

below : (c : After-slice_known-1) (a : ℕ) → a < trees_of (list_of c) → a < 16
below c a l = omega (arith, l, c.requires.0.list_is.few_trees)

from : (c : After-slice_known-1) (a : ℕ) → a < trees_of (list_of c) → word (starts-of c) a ≤ word (starts-of c) (a + 1)
from c a l = from_to (list_of c) c.requires.0.has_word (trees_of (list_of c)) (starts-of c) c.requires.0.starts_are a l

to : (c : After-slice_known-1) (a : ℕ) → a < trees_of (list_of c) → word (starts-of c) (a + 1) ≤ length (list_of c)
to c a l = to_end (list_of c) c.requires.0.has_word (trees_of (list_of c)) (starts-of c) c.requires.0.starts_are a l

lent : (c : After-slice_known-1) (a : ℕ) → a < trees_of (list_of c)
    → take (word (starts-of c) (a + 1) - word (starts-of c) a) (drop (word (starts-of c) a) (list_of c)) ≡ tree_at (list_of c) a
lent c a l = lent_tree (list_of c) c.requires.0.has_word (trees_of (list_of c)) (starts-of c) c.requires.0.starts_are a l

-- ---- the needs

pub offset_bounds-starts-i : goal.offset_bounds-starts-i
offset_bounds-starts-i c = omega (arith, below c c.args.i c.requires.1)

pub bounds-starts-i : goal.bounds-starts-i
bounds-starts-i c = omega (arith, below (goal.at.bounds-starts-i c).After-slice_known-1 c.args.i c.requires.1)

pub overflow_add-e : goal.overflow_add-e
overflow_add-e c = omega (arith, below (goal.at.overflow_add-e c).After-slice_known-1 c.args.i c.requires.1)

pub offset_bounds-starts-i-2 : goal.offset_bounds-starts-i-2
offset_bounds-starts-i-2 c = omega (arith, below (goal.at.offset_bounds-starts-i-2 c).After-slice_known-1 c.args.i c.requires.1)

pub bounds-starts-i-2 : goal.bounds-starts-i-2
bounds-starts-i-2 c = omega (arith, below (goal.at.bounds-starts-i-2 c).After-slice_known-1 c.args.i c.requires.1)

pub offset_bounds-starts-j : goal.offset_bounds-starts-j
offset_bounds-starts-j c = omega (arith, below (goal.at.offset_bounds-starts-j c).After-slice_known-1 c.args.j c.requires.2)

pub bounds-starts-j : goal.bounds-starts-j
bounds-starts-j c = omega (arith, below (goal.at.bounds-starts-j c).After-slice_known-1 c.args.j c.requires.2)

pub overflow_add-to : goal.overflow_add-to
overflow_add-to c = omega (arith, below (goal.at.overflow_add-to c).After-slice_known-1 c.args.j c.requires.2)

pub offset_bounds-starts-j-2 : goal.offset_bounds-starts-j-2
offset_bounds-starts-j-2 c = omega (arith, below (goal.at.offset_bounds-starts-j-2 c).After-slice_known-1 c.args.j c.requires.2)

pub bounds-starts-j-2 : goal.bounds-starts-j-2
bounds-starts-j-2 c = omega (arith, below (goal.at.bounds-starts-j-2 c).After-slice_known-1 c.args.j c.requires.2)

pub offset_bounds-list-s : goal.offset_bounds-list-s
offset_bounds-list-s c = omega (arith, from (goal.at.offset_bounds-list-s c).After-slice_known-1 c.args.i c.requires.1, to (goal.at.offset_bounds-list-s c).After-slice_known-1 c.args.i c.requires.1)

pub slice_bounds-between-count : goal.slice_bounds-between-count
slice_bounds-between-count c = from (goal.at.slice_bounds-between-count c).After-slice_known-1 c.args.i c.requires.1

pub slice_bounds-between-start : goal.slice_bounds-between-start
slice_bounds-between-start c = from (goal.at.slice_bounds-between-start c).After-slice_known-1 c.args.i c.requires.1

pub slice_bounds-between-end : goal.slice_bounds-between-end
slice_bounds-between-end c = to (goal.at.slice_bounds-between-end c).After-slice_known-1 c.args.i c.requires.1

pub offset_bounds-list-from : goal.offset_bounds-list-from
offset_bounds-list-from c = omega (arith, from (goal.at.offset_bounds-list-from c).After-slice_known-1 c.args.j c.requires.2, to (goal.at.offset_bounds-list-from c).After-slice_known-1 c.args.j c.requires.2)

pub slice_bounds-between-count-2 : goal.slice_bounds-between-count-2
slice_bounds-between-count-2 c = from (goal.at.slice_bounds-between-count-2 c).After-slice_known-1 c.args.j c.requires.2

pub slice_bounds-between-start-2 : goal.slice_bounds-between-start-2
slice_bounds-between-start-2 c = from (goal.at.slice_bounds-between-start-2 c).After-slice_known-1 c.args.j c.requires.2

pub slice_bounds-between-end-2 : goal.slice_bounds-between-end-2
slice_bounds-between-end-2 c = to (goal.at.slice_bounds-between-end-2 c).After-slice_known-1 c.args.j c.requires.2

pub between-requires : goal.between-requires
between-requires c =
    pair_ready _ _ _ _ c.requires.0 _ _ c.requires.1 c.requires.2 _ _ (lent (goal.at.between-requires c).After-slice_known-1 c.args.i c.requires.1) (lent (goal.at.between-requires c).After-slice_known-1 c.args.j c.requires.2)

pub returns : goal.returns
returns c =
    told_apart _ _ _ _ c.requires.0 _ _ c.requires.1 c.requires.2 _ _ (lent (goal.at.returns c).After-slice_known-1 c.args.i c.requires.1) (lent (goal.at.returns c).After-slice_known-1 c.args.j c.requires.2)
    _ _ _ c.between.ensures.0 c.between.ensures.1
