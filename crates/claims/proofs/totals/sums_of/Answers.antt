-- Lists of codes for both trees, then the sums over nodes and over pairs of nodes.
-- Assumes nothing.
use mathlib.Core.Path.{refl, sym}
use mathlib.Core.List.{List}
use Prim.Native.Nat.{ℕ}
use native.Mathlib.Omega.{arith}
use lib.ListN.{replicate, length-replicate}
use Rattle.table_words.specs.lemmas.Rooms.{code_room, start_room}
use Rattle.code_lists.specs.lemmas.CodesAt.{Parents}
use Rattle.code_lists.specs.lemmas.Listed.{Fit, listed_starts, listed_edges}
use Rattle.claims.specs.lemmas.NodeCodes.{CodeLists}
use Rattle.claims.specs.lemmas.SumsOf.{first_lists, second_lists, first_sizes, second_sizes, node_pairs, summed_is}
use Rattle.claims.proofs.totals.sums_of.Goals.{After-second_edges-2-1, After-second_starts-1}
use Rattle.claims.proofs.totals.sums_of.Goals as goal

-- ---- the lists

-- there is room for the lists of a tree
fit : (ps : List ℕ) → Parents ps → Fit ps (replicate start_room 0) (replicate code_room 0)
fit ps p = record {
  parents = p;
  starts_room = omega (arith, p.few, length-replicate {A = ℕ} start_room 0);
  edges_room = omega (arith, p.few, length-replicate {A = ℕ} code_room 0);
}

first-listed : (c : After-second_starts-1)
    → CodeLists c.args.first_parents.now c.list_codes.new.starts c.list_codes.new.edges
first-listed c =
    let p = c.requires in
    let f = fit _ p.first in
    let e = c.list_codes.ensures in
    first_lists _ _ _ _ _ p _ _ (listed_starts _ _ _ f _ c.list_codes.auto.starts e.0)
    (listed_edges _ _ _ f _ c.list_codes.auto.edges e.1)

second-listed : (c : After-second_edges-2-1)
    → CodeLists c.args.second_parents.now c.list_codes-2.new.starts c.list_codes-2.new.edges
second-listed c =
    let p = c.requires in
    let f = fit _ p.second in
    let e = c.list_codes-2.ensures in
    second_lists _ _ _ _ _ p _ _ (listed_starts _ _ _ f _ c.list_codes-2.auto.starts e.0)
    (listed_edges _ _ _ f _ c.list_codes-2.auto.edges e.1)

-- ---- what is asked

pub slice_bounds-list_codes-end : goal.slice_bounds-list_codes-end
slice_bounds-list_codes-end c = refl

pub slice_bounds-list_codes-end-2 : goal.slice_bounds-list_codes-end-2
slice_bounds-list_codes-end-2 c = refl

pub slice_bounds-list_codes-end-3 : goal.slice_bounds-list_codes-end-3
slice_bounds-list_codes-end-3 c = refl

pub slice_bounds-list_codes-end-4 : goal.slice_bounds-list_codes-end-4
slice_bounds-list_codes-end-4 c = refl

pub overflow_sub-second_parents : goal.overflow_sub-second_parents
overflow_sub-second_parents c = omega (arith, c.requires.some)

pub slice_bounds-tree_sum-end : goal.slice_bounds-tree_sum-end
slice_bounds-tree_sum-end c = sym (first-listed (goal.at.slice_bounds-tree_sum-end c).After-second_starts-1).begins.long

pub slice_bounds-tree_sum-end-2 : goal.slice_bounds-tree_sum-end-2
slice_bounds-tree_sum-end-2 c = sym (first-listed (goal.at.slice_bounds-tree_sum-end-2 c).After-second_starts-1).long

pub slice_bounds-tree_sum-end-3 : goal.slice_bounds-tree_sum-end-3
slice_bounds-tree_sum-end-3 c = refl

pub tree_sum-first-requires : goal.tree_sum-first-requires
tree_sum-first-requires c =
    first_sizes _ _ _ _ _ c.requires _ _ (first-listed (goal.at.tree_sum-first-requires c).After-second_starts-1)

pub slice_bounds-tree_sum-end-4 : goal.slice_bounds-tree_sum-end-4
slice_bounds-tree_sum-end-4 c = sym (second-listed (goal.at.slice_bounds-tree_sum-end-4 c).After-second_edges-2-1).begins.long

pub slice_bounds-tree_sum-end-5 : goal.slice_bounds-tree_sum-end-5
slice_bounds-tree_sum-end-5 c = sym (second-listed (goal.at.slice_bounds-tree_sum-end-5 c).After-second_edges-2-1).long

pub slice_bounds-tree_sum-end-6 : goal.slice_bounds-tree_sum-end-6
slice_bounds-tree_sum-end-6 c =
    sym c.tree_sum-first.auto.sizes

pub tree_sum-second-requires : goal.tree_sum-second-requires
tree_sum-second-requires c =
    rw c.tree_sum-first.auto.sizes (second_sizes _ _ _ _ _ c.requires _ _ (second-listed (goal.at.tree_sum-second-requires c).After-second_edges-2-1))

pub slice_bounds-pair_sums-end : goal.slice_bounds-pair_sums-end
slice_bounds-pair_sums-end c = sym (first-listed (goal.at.slice_bounds-pair_sums-end c).After-second_starts-1).begins.long

pub slice_bounds-pair_sums-end-2 : goal.slice_bounds-pair_sums-end-2
slice_bounds-pair_sums-end-2 c = sym (first-listed (goal.at.slice_bounds-pair_sums-end-2 c).After-second_starts-1).long

pub slice_bounds-pair_sums-end-3 : goal.slice_bounds-pair_sums-end-3
slice_bounds-pair_sums-end-3 c = sym (second-listed (goal.at.slice_bounds-pair_sums-end-3 c).After-second_edges-2-1).begins.long

pub slice_bounds-pair_sums-end-4 : goal.slice_bounds-pair_sums-end-4
slice_bounds-pair_sums-end-4 c = sym (second-listed (goal.at.slice_bounds-pair_sums-end-4 c).After-second_edges-2-1).long

pub pair_sums-pairs-requires : goal.pair_sums-pairs-requires
pair_sums-pairs-requires c =
    node_pairs _ _ _ _ _ c.requires _ _ _ _ (first-listed (goal.at.pair_sums-pairs-requires c).After-second_starts-1) (second-listed (goal.at.pair_sums-pairs-requires c).After-second_edges-2-1)

pub returns : goal.returns
returns c =
    let a = c.args in
    summed_is a.work.now _ a.first_parents.now a.second_parents.now _ _ _ _
    c.tree_sum-first.ensures.0 c.tree_sum-second.ensures.0 c.pair_sums-pairs.ensures.0
    c.pair_sums-pairs.ensures.1
