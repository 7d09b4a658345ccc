-- What is known where the search needs a hint.
-- Assumes nothing.
use Rattle.std.proofs.Common.{◌-◌, ◌<◌, arith}
use Rattle.table_words.specs.Sizes.{nodes_most}
use Rattle.tree_check.specs.Table.{word}
use Rattle.walks.specs.lemmas.TreeArrays.{few_tips, few_nodes}
use Rattle.walks.specs.lemmas.Writing.{size-le_end, write_inside, write_tip, write_inner}
use Rattle.walks.specs.lemmas.Writing.{write_all}
use Rattle.walks.proofs.walks.write_walk.Goals.{else-is_tip, then-is_tip, In-loop-v, Then-is_tip}
use Rattle.walks.proofs.walks.write_walk.Goals as goal

-- ---- what is known there

few : (c : In-loop-v) → c.loop-v.v < nodes_most
few c =
    omega (arith, c.loop-v-test.true, few_nodes _ _ _ c.requires.0, c.requires.0.same)

-- a tip's place
inside : (c : Then-is_tip) → word c.ends.new.reach c.loop-v.v - word c.sizes.new.cells c.loop-v.v < c.args.n
inside c =
    write_inside _ _ _ c.requires.0 _ _ c.sizes.ensures c.ends.ensures _ _
    c.requires.1 c.loop-v.v c.loop-v-test.true c.loop-v.invariant
    (omega (arith, c.if-is_tip.true, c.from.ensures))

pub offset_bounds-end-v : goal.offset_bounds-end-v
offset_bounds-end-v c = omega (arith, few (goal.at.offset_bounds-end-v c).In-loop-v)

pub bounds-end-v : goal.bounds-end-v
bounds-end-v c = omega (arith, few (goal.at.bounds-end-v c).In-loop-v)

pub offset_bounds-size-v : goal.offset_bounds-size-v
offset_bounds-size-v c = omega (arith, few (goal.at.offset_bounds-size-v c).In-loop-v)

pub bounds-size-v : goal.bounds-size-v
bounds-size-v c = omega (arith, few (goal.at.bounds-size-v c).In-loop-v)

pub overflow_sub-cells : goal.overflow_sub-cells
overflow_sub-cells c =
    size-le_end _ _ _ c.requires.0 _ _ c.sizes.ensures c.ends.ensures _ _
    c.requires.1 c.loop-v.v c.loop-v-test.true c.loop-v.invariant

pub offset_bounds-cells-end : goal.offset_bounds-cells-end
offset_bounds-cells-end c =
    omega (arith, inside c, few_tips _ _ _ c.requires.0)

pub bounds-cells-end : goal.bounds-cells-end
bounds-cells-end c =
    omega (arith, inside c, c.requires.1, c.loop-v.auto.cells)

pub loop-v-preserved : goal.loop-v-preserved
loop-v-preserved c =
    let z = c.sizes.ensures in
    let e = c.ends.ensures in
    let w = c.from in
    let t = c.loop-v-test.true in
    elim c.if-is_tip.branch [
      | then-is_tip h ↦ rw h.cells-is (write_tip _ _ _ c.requires.0 _ _ z e _ _ c.requires.1 c.loop-v.v t c.loop-v.invariant
          (omega (arith, h.if-is_tip.true, w.ensures)))
      | else-is_tip h ↦ rw h.cells-is (write_inner _ _ _ c.requires.0 _ _ z e _ _ c.requires.1 c.loop-v.v t c.loop-v.invariant
          (omega (arith, h.if-is_tip.false, w.ensures)))
    ]

pub returns : goal.returns
returns c =
    write_all _ _ _ c.requires.0 _ _ c.loop-v.v c.loop-v-test.false c.requires.1 c.loop-v.invariant
