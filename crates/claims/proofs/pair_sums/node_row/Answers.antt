-- What is known where the search needs a hint.
-- Assumes nothing.
use Prim.Native.Nat.{ℕ, ◌+◌, ◌≤◌, ◌<◌}
use mathlib.Core.Path.{◌≡◌, sym, ◌∙◌}
use native.Mathlib.Omega.{arith}
use lib.ListN.{length, take}
use Rattle.table_words.specs.Sizes.{nodes_most}
use Rattle.table_words.specs.lemmas.Rooms.{start_room}
use Rattle.tree_check.specs.Table.{word}
use Rattle.claims.specs.lemmas.NodeCodes.{part_inside}
use Rattle.claims.specs.lemmas.Prefix.{prefix_read, prefix_read-all}
use Rattle.claims.specs.lemmas.PairLoops.{TermsSummed, summed_none, summed_next, summed_most, summed-all}
use Rattle.claims.specs.lemmas.PairLoops.{NodeRow, row_s2, row_s3, few_row, inner_S2, inner_S3, row_room, row_s2_lem, row_s3_lem}
use Rattle.claims.proofs.pair_sums.node_row.Goals.{After-struct_known-1, In-loop-v}
use Rattle.claims.proofs.pair_sums.node_row.Goals as goal

-- ---- what is known there

-- in a turn the first tree's node has three codes or more into it, ..
row : (c : In-loop-v)
    → (let a = c.args in NodeRow a.work.now a.width a.n a.rows.now a.second_parents.now a.second_starts.now
    a.second_edges.now (length a.block.now))
row c = c.requires.node_row_room.row (omega (arith, c.if-rows-lt3.false))

-- .. and the listed one is a node of the second
abbrev listed : (c : In-loop-v) → ℕ
listed c = word (take c.args.count c.args.inner.now) c.loop-v.v-index

read : (c : In-loop-v)
    → (let a = c.args in (c.loop-v.v-index < a.count) × (listed c ≡ word a.inner.now c.loop-v.v-index))
read c = prefix_read _ _ _ c.requires.inner_nodes.1 c.loop-v-test.true

node : (c : In-loop-v) → listed c < length c.args.second_parents.now
node c = let r = read c in rw r.1 (c.requires.inner_nodes.0.before _ r.0)

-- what is read in it lies in its slices
low : (c : In-loop-v)
    → (let a = c.args in (listed c < nodes_most) × (length a.second_starts.now ≡ start_room) × (a.count ≤ nodes_most))
low c =
    let h = (row c).lists in (
      omega (arith, h.parents.few, node c),
      h.begins.long,
      omega (arith, h.parents.few, c.requires.inner_nodes.0.few),
    )

-- the sums with the turn's pair
module _ (c : After-struct_known-1) where
  summed : (let a = c.args in
      TermsSummed (λ k. row_s2 a.work.now a.width a.n a.rows.now a.second_parents.now (word a.inner.now k))
      (λ k. row_s3 a.work.now a.width a.n a.rows.now a.second_parents.now (word a.inner.now k))
      (c.loop-v.v-index + 1) (c.loop-v.s2 + c.node_pair-pair.result.s2)
      (c.loop-v.s3 + c.node_pair-pair.result.s3))
  summed =
      let t = (goal.at.After-struct_known-1 c).In-loop-v in
      let e = (read t).1 in
      summed_next _ _ _ _ _ c.loop-v.invariant _ _
      (rw e at (row_s2_lem _ _ _ _ _ _ _ _ (row t) _ (node t) _ c.node_pair-pair.ensures.0))
      (rw e at (row_s3_lem _ _ _ _ _ _ _ _ (row t) _ (node t) _ c.node_pair-pair.ensures.1))

  sums-low : (c.loop-v.s2 + c.node_pair-pair.result.s2 ≤ 699170560)
      × (c.loop-v.s3 + c.node_pair-pair.result.s3 ≤ 699170560)
  sums-low =
      let a = c.args in
      let n = c.requires.inner_nodes.0 in
      let t = (goal.at.After-struct_known-1 c).In-loop-v in
      let h = row t in
      summed_most _ _ _ _ _ summed a.count 699170560 (omega (arith, (read t).0))
      (omega (arith, inner_S2 a.work.now a.width a.n a.rows.now _ _ _ n, h.all_S2))
      (omega (arith, inner_S3 a.work.now a.width a.n a.rows.now _ _ _ n, h.all_S3))

-- ---- what is asked there

pub returns-then-rows-lt3 : goal.returns-then-rows-lt3
returns-then-rows-lt3 c =
    let a = c.args in
    let q = few_row a.work.now a.width a.n a.rows.now a.second_parents.now c.if-rows-lt3.true in
    (sym q.0, sym q.1)

pub loop-v-init : goal.loop-v-init
loop-v-init c = summed_none _ _

pub offset_bounds-second_starts-v : goal.offset_bounds-second_starts-v
offset_bounds-second_starts-v c = omega (arith, low (goal.at.offset_bounds-second_starts-v c).In-loop-v)

pub bounds-second_starts-v : goal.bounds-second_starts-v
bounds-second_starts-v c = omega (arith, low (goal.at.bounds-second_starts-v c).In-loop-v)

pub overflow_add-to : goal.overflow_add-to
overflow_add-to c = omega (arith, low (goal.at.overflow_add-to c).In-loop-v)

pub offset_bounds-second_starts-v-in-loop-v : goal.offset_bounds-second_starts-v-in-loop-v
offset_bounds-second_starts-v-in-loop-v c = omega (arith, low (goal.at.offset_bounds-second_starts-v-in-loop-v c).In-loop-v)

pub bounds-second_starts-v-in-loop-v : goal.bounds-second_starts-v-in-loop-v
bounds-second_starts-v-in-loop-v c = omega (arith, low (goal.at.bounds-second_starts-v-in-loop-v c).In-loop-v)

pub offset_bounds-second_edges-from : goal.offset_bounds-second_edges-from
offset_bounds-second_edges-from c =
    omega (arith, part_inside _ _ _ (row (goal.at.offset_bounds-second_edges-from c).In-loop-v).lists _ (node (goal.at.offset_bounds-second_edges-from c).In-loop-v))

pub slice_bounds-node_pair-count : goal.slice_bounds-node_pair-count
slice_bounds-node_pair-count c =
    (part_inside _ _ _ (row (goal.at.slice_bounds-node_pair-count c).In-loop-v).lists _ (node (goal.at.slice_bounds-node_pair-count c).In-loop-v)).0

pub slice_bounds-node_pair-start : goal.slice_bounds-node_pair-start
slice_bounds-node_pair-start c =
    (part_inside _ _ _ (row (goal.at.slice_bounds-node_pair-start c).In-loop-v).lists _ (node (goal.at.slice_bounds-node_pair-start c).In-loop-v)).0

pub slice_bounds-node_pair-end : goal.slice_bounds-node_pair-end
slice_bounds-node_pair-end c =
    (part_inside _ _ _ (row (goal.at.slice_bounds-node_pair-end c).In-loop-v).lists _ (node (goal.at.slice_bounds-node_pair-end c).In-loop-v)).1

pub node_pair-pair-requires : goal.node_pair-pair-requires
node_pair-pair-requires c =
    let s = c.requires.scratch in
    let k = c.loop-v.auto in record { pair_room = rw k.block (row_room _ _ _ _ _ _ _ _ (row (goal.at.node_pair-pair-requires c).In-loop-v) _ (node (goal.at.node_pair-pair-requires c).In-loop-v)); scratch = record { sums_long = omega (arith, k.sums, s.sums_long); totals_long = omega (arith, k.totals, s.totals_long); down_long = omega (arith, k.down, s.down_long); along_long = omega (arith, k.along, s.along_long); dots_long = omega (arith, k.dots, s.dots_long) } }

pub overflow_add-s2 : goal.overflow_add-s2
overflow_add-s2 c = omega (arith, sums-low c)

pub overflow_add-s3 : goal.overflow_add-s3
overflow_add-s3 c = omega (arith, sums-low (goal.at.overflow_add-s3 c).After-struct_known-1)

pub loop-v-preserved : goal.loop-v-preserved
loop-v-preserved c =
    summed (goal.at.loop-v-preserved c).After-struct_known-1

pub returns : goal.returns
returns c =
    let a = c.args in
    let n = c.requires.inner_nodes.0 in
    let e : c.loop-v.v-index ≡ a.count =
    prefix_read-all _ _ _ c.requires.inner_nodes.1 c.loop-v.auto.v-index-end c.loop-v-test.false in
    let q = summed-all _ _ _ _ _ c.loop-v.invariant _ (omega (arith, e)) (omega (arith, e)) in (
      q.0 ∙ inner_S2 a.work.now a.width a.n a.rows.now _ _ _ n,
      q.1 ∙ inner_S3 a.work.now a.width a.n a.rows.now _ _ _ n,
    )
