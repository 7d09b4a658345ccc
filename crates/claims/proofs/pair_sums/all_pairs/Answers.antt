-- What is known where the search needs a hint.
-- Assumes nothing.
use Prim.Native.Nat.{◌+◌, ◌-◌, ◌≤◌}
use mathlib.Core.Path.{refl, sym, ◌∙◌}
use native.Mathlib.Omega.{arith}
use lib.ListN.{length}
use Rattle.code_lists.specs.lemmas.InnerNodes.{InnerNodes}
use Rattle.claims.specs.lemmas.NodeCodes.{part_inside}
use Rattle.claims.specs.lemmas.LentStarts.{lent_length, lent_inner}
use Rattle.claims.specs.lemmas.PairLoops.{TermsSummed, summed_none, summed_next, summed_most, summed-all}
use Rattle.claims.specs.lemmas.PairLoops.{node_s2, node_s3, node_room_lem, node_s2_lem, node_s3_lem}
use Rattle.claims.proofs.pair_sums.all_pairs.Goals.{After-inner-2-1, After-struct_known-1}
use Rattle.claims.proofs.pair_sums.all_pairs.Goals as goal

-- ---- what is known there

-- the second tree's inner nodes
inner : (c : After-inner-2-1)
    → (let qs = c.args.second_parents.now in
    InnerNodes qs c.inner_nodes-count.new.inner c.inner_nodes-count.result (length qs))
inner c =
    let h = c.requires.pairs.second in
    lent_inner _ _ h.parents h.begins _ _ _ (omega arith) c.inner_nodes-count.ensures.0 c.inner_nodes-count.ensures.1

-- the sums with the turn's row
module _ (c : After-struct_known-1) where
  summed : (let a = c.args in
      let w = length a.second_parents.now - 1 in
      TermsSummed (node_s2 a.work.now w a.n a.first_parents.now a.second_parents.now)
      (node_s3 a.work.now w a.n a.first_parents.now a.second_parents.now) (c.loop-v.v + 1)
      (c.loop-v.s2 + c.node_row-row.result.s2) (c.loop-v.s3 + c.node_row-row.result.s3))
  summed =
      let h = c.requires.pairs in
      summed_next _ _ _ _ _ c.loop-v.invariant.0 _ _
      (node_s2_lem _ _ _ _ _ _ _ _ _ _ h _ c.loop-v-test.true _ c.node_row-row.ensures.0)
      (node_s3_lem _ _ _ _ _ _ _ _ _ _ h _ c.loop-v-test.true _ c.node_row-row.ensures.1)

  low : (c.loop-v.s2 + c.node_row-row.result.s2 ≤ 699170560)
      × (c.loop-v.s3 + c.node_row-row.result.s3 ≤ 699170560)
  low =
      let h = c.requires.pairs in
      summed_most _ _ _ _ _ summed _ 699170560 (omega (arith, c.loop-v-test.true)) h.all_S2 h.all_S3

-- ---- what is asked there

pub overflow_sub-width : goal.overflow_sub-width
overflow_sub-width c = omega (arith, c.requires.pairs.second.parents.some)

pub overflow_add-second_parents : goal.overflow_add-second_parents
overflow_add-second_parents c = omega (arith, c.requires.pairs.second.parents.few)

pub slice_bounds-inner_nodes-end : goal.slice_bounds-inner_nodes-end
slice_bounds-inner_nodes-end c =
    let h = c.requires.pairs.second in
    sym (lent_length _ _ h.parents h.begins)

pub slice_bounds-inner_nodes-end-2 : goal.slice_bounds-inner_nodes-end-2
slice_bounds-inner_nodes-end-2 c = refl

pub loop-v-init : goal.loop-v-init
loop-v-init c = (summed_none _ _, refl, refl, refl, refl, refl)

pub offset_bounds-first_starts-v : goal.offset_bounds-first_starts-v
offset_bounds-first_starts-v c =
    let h = c.requires.pairs.first in
    omega (arith, h.parents.few, c.loop-v-test.true, h.begins.long)

pub bounds-first_starts-v : goal.bounds-first_starts-v
bounds-first_starts-v c =
    let h = c.requires.pairs.first in
    omega (arith, h.parents.few, c.loop-v-test.true, h.begins.long)

pub overflow_add-to : goal.overflow_add-to
overflow_add-to c =
    let h = c.requires.pairs.first in
    omega (arith, h.parents.few, c.loop-v-test.true, h.begins.long)

pub offset_bounds-first_starts-v-in-loop-v : goal.offset_bounds-first_starts-v-in-loop-v
offset_bounds-first_starts-v-in-loop-v c =
    let h = c.requires.pairs.first in
    omega (arith, h.parents.few, c.loop-v-test.true, h.begins.long)

pub bounds-first_starts-v-in-loop-v : goal.bounds-first_starts-v-in-loop-v
bounds-first_starts-v-in-loop-v c =
    let h = c.requires.pairs.first in
    omega (arith, h.parents.few, c.loop-v-test.true, h.begins.long)

pub offset_bounds-first_edges-from : goal.offset_bounds-first_edges-from
offset_bounds-first_edges-from c =
    omega (arith, part_inside _ _ _ c.requires.pairs.first _ c.loop-v-test.true)

pub slice_bounds-node_row-count : goal.slice_bounds-node_row-count
slice_bounds-node_row-count c =
    (part_inside _ _ _ c.requires.pairs.first _ c.loop-v-test.true).0

pub slice_bounds-node_row-start : goal.slice_bounds-node_row-start
slice_bounds-node_row-start c =
    (part_inside _ _ _ c.requires.pairs.first _ c.loop-v-test.true).0

pub slice_bounds-node_row-end : goal.slice_bounds-node_row-end
slice_bounds-node_row-end c =
    (part_inside _ _ _ c.requires.pairs.first _ c.loop-v-test.true).1

pub slice_bounds-node_row-end-in-loop-v : goal.slice_bounds-node_row-end-in-loop-v
slice_bounds-node_row-end-in-loop-v c = sym c.inner_nodes-count.auto.inner

pub slice_bounds-node_row-end-in-loop-v-2 : goal.slice_bounds-node_row-end-in-loop-v-2
slice_bounds-node_row-end-in-loop-v-2 c = sym c.loop-v.invariant.1

pub slice_bounds-node_row-end-in-loop-v-3 : goal.slice_bounds-node_row-end-in-loop-v-3
slice_bounds-node_row-end-in-loop-v-3 c = sym c.loop-v.invariant.2

pub slice_bounds-node_row-end-in-loop-v-4 : goal.slice_bounds-node_row-end-in-loop-v-4
slice_bounds-node_row-end-in-loop-v-4 c = sym c.loop-v.invariant.3

pub slice_bounds-node_row-end-in-loop-v-5 : goal.slice_bounds-node_row-end-in-loop-v-5
slice_bounds-node_row-end-in-loop-v-5 c = sym c.loop-v.invariant.4

pub slice_bounds-node_row-end-in-loop-v-6 : goal.slice_bounds-node_row-end-in-loop-v-6
slice_bounds-node_row-end-in-loop-v-6 c = sym c.loop-v.invariant.5

pub node_row-row-requires : goal.node_row-row-requires
node_row-row-requires c =
    let h = c.requires.pairs in
    let n = inner (goal.at.node_row-row-requires c).After-inner-2-1 in
    let i = c.loop-v.invariant in record { node_row_room = node_room_lem _ _ _ _ _ _ _ _ _ _ h _ c.loop-v-test.true _ (omega (arith, c.loop-v.auto.block, c.requires.room)); scratch = record { sums_long = omega (arith, i.1); totals_long = omega (arith, i.2); down_long = omega (arith, i.3); along_long = omega (arith, i.4); dots_long = omega (arith, i.5) }; inner_nodes = (n, omega (arith, n.few, h.second.parents.few, c.inner_nodes-count.auto.inner)) }

pub overflow_add-s2 : goal.overflow_add-s2
overflow_add-s2 c = omega (arith, low c)

pub overflow_add-s3 : goal.overflow_add-s3
overflow_add-s3 c = omega (arith, low (goal.at.overflow_add-s3 c).After-struct_known-1)

pub loop-v-preserved : goal.loop-v-preserved
loop-v-preserved c =
    let i = c.loop-v.invariant in
    let kept = c.node_row-row.auto in (
      summed (goal.at.loop-v-preserved c).After-struct_known-1,
      kept.sums ∙ i.1,
      kept.totals ∙ i.2,
      kept.down ∙ i.3,
      kept.along ∙ i.4,
      kept.dots ∙ i.5,
    )

pub returns : goal.returns
returns c =
    summed-all _ _ _ _ _ c.loop-v.invariant.0 _ c.loop-v.auto.v-end (omega (arith, c.loop-v-test.false))
