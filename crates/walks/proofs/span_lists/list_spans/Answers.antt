-- What is known where the search needs a hint.
-- Assumes nothing.
use Rattle.std.proofs.Common.{ℕ, ◌<◌, List, set, ap, ◌∙◌, arith}
use Rattle.table_words.specs.Sizes.{nodes_most}
use Rattle.sums.specs.theorems.ListLaws.{in_front_none, in_front_next}
use Rattle.walks.specs.lemmas.TreeArrays.{few_nodes}
use Rattle.walks.specs.lemmas.SpanLists.{size_fits, begin_is, end_is}
use Rattle.walks.proofs.span_lists.list_spans.Goals.{In-loop-v}
use Rattle.walks.proofs.span_lists.list_spans.Goals as goal

-- ---- what is known there

-- the next node has a cell
few : (c : In-loop-v) → c.loop-v.v < nodes_most
few c = omega (arith, c.loop-v-test.true, few_nodes _ _ _ c.requires.0)

-- ---- the needs

pub loop-v-init : goal.loop-v-init
loop-v-init c = (in_front_none _ _, in_front_none _ _)

pub offset_bounds-reach-v : goal.offset_bounds-reach-v
offset_bounds-reach-v c =
    let few : c.loop-v.v < nodes_most = omega (arith, c.loop-v-test.true, few_nodes _ _ _ c.requires.0) in
    omega (arith, few)

pub bounds-reach-v : goal.bounds-reach-v
bounds-reach-v c =
    let few : c.loop-v.v < nodes_most = omega (arith, c.loop-v-test.true, few_nodes _ _ _ c.requires.0) in
    omega (arith, few)

pub offset_bounds-size-v : goal.offset_bounds-size-v
offset_bounds-size-v c =
    let few : c.loop-v.v < nodes_most = omega (arith, c.loop-v-test.true, few_nodes _ _ _ c.requires.0) in
    omega (arith, few)

pub bounds-size-v : goal.bounds-size-v
bounds-size-v c =
    let few : c.loop-v.v < nodes_most = omega (arith, c.loop-v-test.true, few_nodes _ _ _ c.requires.0) in
    omega (arith, few)

pub overflow_sub-reach : goal.overflow_sub-reach
overflow_sub-reach c =
    size_fits _ _ _ c.requires.0 _ _ c.sizes.ensures c.ends.ensures c.loop-v.v c.loop-v-test.true

pub offset_bounds-reach-v-in-loop-v : goal.offset_bounds-reach-v-in-loop-v
offset_bounds-reach-v-in-loop-v c = omega (arith, few (goal.at.offset_bounds-reach-v-in-loop-v c).In-loop-v)

pub bounds-reach-v-in-loop-v : goal.bounds-reach-v-in-loop-v
bounds-reach-v-in-loop-v c = omega (arith, few (goal.at.bounds-reach-v-in-loop-v c).In-loop-v)

pub loop-v-preserved : goal.loop-v-preserved
loop-v-preserved c =
    let l = c.loop-v in (
      ap (λ (x : List ℕ). set x l.v c.as_cell.result) l.invariant.0
          ∙ in_front_next l.v _ _ c.as_cell.result (omega (arith, c.loop-v-test.true, c.requires.1))
          (begin_is _ _ _ c.requires.0 _ _ c.sizes.ensures c.ends.ensures l.v c.loop-v-test.true
          _ _ c.one_less.ensures c.as_cell.ensures),
      ap (λ (x : List ℕ). set x l.v c.as_cell-in-loop-v.result) l.invariant.1
          ∙ in_front_next l.v _ _ c.as_cell-in-loop-v.result (omega (arith, c.loop-v-test.true, c.requires.2))
          (end_is _ _ _ c.requires.0 _ _ c.sizes.ensures c.ends.ensures l.v c.loop-v-test.true
          _ _ c.one_less-in-loop-v.ensures c.as_cell-in-loop-v.ensures),
    )
