-- The labels of node i start where they end, less how many they are.
-- Assumes nothing.
use Rattle.std.proofs.Common.{ℕ, ◌≤◌, List, arith}
use lib.ListN.{length-replicate}
use Rattle.table_words.specs.Sizes.{node_room}
use Rattle.tree_check.specs.Table.{word}
use Rattle.walks.specs.lemmas.TreeArrays.{few_tips, few_nodes}
use Rattle.walks.specs.lemmas.Positions.{part_bounds, place_between}
use Rattle.walks.proofs.edges.part_of.Goals.{After-ends}
use Rattle.walks.proofs.edges.part_of.Goals as goal

-- the sizes, and the ends
abbrev size-list : (c : After-ends) → List ℕ
size-list c = c.sizes.new.cells

abbrev end_list : (c : After-ends) → List ℕ
end_list c = c.ends.new.reach

-- ---- what is known there

bounds : (c : After-ends) → (word (size-list c) c.args.i ≤ word (end_list c) c.args.i) × (word (end_list c) c.args.i ≤ c.args.n)
bounds c =
    part_bounds _ _ _ c.requires.0 _ _ c.sizes.ensures c.ends.ensures c.args.i c.requires.1

pub sizes-requires : goal.sizes-requires
sizes-requires c = (c.requires.0, length-replicate {A = ℕ} node_room 0)

pub ends-requires : goal.ends-requires
ends-requires c =
    (c.requires.0, c.sizes.ensures, length-replicate {A = ℕ} node_room 0)

pub offset_bounds-size-i : goal.offset_bounds-size-i
offset_bounds-size-i c =
    omega (arith, few_nodes _ _ _ c.requires.0, c.requires.1)

pub bounds-size-i : goal.bounds-size-i
bounds-size-i c =
    omega (arith, few_nodes _ _ _ c.requires.0, c.requires.1)

pub offset_bounds-end-i : goal.offset_bounds-end-i
offset_bounds-end-i c =
    omega (arith, few_nodes _ _ _ c.requires.0, c.requires.1)

pub bounds-end-i : goal.bounds-end-i
bounds-end-i c =
    omega (arith, few_nodes _ _ _ c.requires.0, c.requires.1)

pub overflow_sub-from : goal.overflow_sub-from
overflow_sub-from c = (bounds c).0

pub returns : goal.returns
returns c =
    place_between _ _ _ c.requires.0 _ _ c.sizes.ensures c.ends.ensures c.args.i c.requires.1
    _ _ (omega (arith, c.as_word-2.ensures, bounds (goal.at.returns c).After-ends, few_tips _ _ _ c.requires.0))
    (omega (arith, c.as_word.ensures, c.as_word-2.ensures, bounds (goal.at.returns c).After-ends, few_tips _ _ _ c.requires.0))
