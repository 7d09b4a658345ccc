-- What is known where the search needs a hint.
-- Assumes nothing.
use mathlib.Core.Path.{◌≡◌}
use native.Mathlib.Omega.{arith}
use lib.ListN.{length}
use Rattle.claims.specs.lemmas.NodeCodes.{part_inside}
use Rattle.claims.specs.lemmas.TreeSizes.{no_node, node_sizes, next_node}
use Rattle.claims.proofs.node_sums.tree_sum.Goals as goal

pub loop-v-init : goal.loop-v-init
loop-v-init c =
    (no_node _ _ _ _ _ _ _ c.requires, omega arith)

pub offset_bounds-starts-v : goal.offset_bounds-starts-v
offset_bounds-starts-v c =
    omega (arith, c.requires.lists.parents.few, c.loop-v-test.true, c.requires.lists.begins.long)

pub bounds-starts-v : goal.bounds-starts-v
bounds-starts-v c =
    omega (arith, c.requires.lists.parents.few, c.loop-v-test.true, c.requires.lists.begins.long)

pub overflow_add-to : goal.overflow_add-to
overflow_add-to c =
    omega (arith, c.requires.lists.parents.few, c.loop-v-test.true, c.requires.lists.begins.long)

pub offset_bounds-starts-v-in-loop-v : goal.offset_bounds-starts-v-in-loop-v
offset_bounds-starts-v-in-loop-v c =
    omega (arith, c.requires.lists.parents.few, c.loop-v-test.true, c.requires.lists.begins.long)

pub bounds-starts-v-in-loop-v : goal.bounds-starts-v-in-loop-v
bounds-starts-v-in-loop-v c =
    omega (arith, c.requires.lists.parents.few, c.loop-v-test.true, c.requires.lists.begins.long)

pub offset_bounds-edges-from : goal.offset_bounds-edges-from
offset_bounds-edges-from c =
    omega (arith, part_inside _ _ _ c.requires.lists _ c.loop-v-test.true)

pub slice_bounds-node_sum-count : goal.slice_bounds-node_sum-count
slice_bounds-node_sum-count c =
    (part_inside _ _ _ c.requires.lists _ c.loop-v-test.true).0

pub slice_bounds-node_sum-start : goal.slice_bounds-node_sum-start
slice_bounds-node_sum-start c =
    (part_inside _ _ _ c.requires.lists _ c.loop-v-test.true).0

pub slice_bounds-node_sum-end : goal.slice_bounds-node_sum-end
slice_bounds-node_sum-end c =
    (part_inside _ _ _ c.requires.lists _ c.loop-v-test.true).1

pub node_sum-total-requires : goal.node_sum-total-requires
node_sum-total-requires c =
    rw c.loop-v.auto.sizes (node_sizes _ _ _ _ _ _ _ c.requires _ c.loop-v-test.true)

pub overflow_add-total : goal.overflow_add-total
overflow_add-total c =
    omega (
      arith,
      (next_node _ _ _ _ _ _ _ c.requires _ c.loop-v-test.true _ _
          c.loop-v.invariant.0 c.node_sum-total.ensures).1,
    )

pub loop-v-preserved : goal.loop-v-preserved
loop-v-preserved c =
    next_node _ _ _ _ _ _ _ c.requires _ c.loop-v-test.true _ _ c.loop-v.invariant.0 c.node_sum-total.ensures

pub returns : goal.returns
returns c =
    let e : c.loop-v.v ≡ length c.args.parents.now = omega (arith, c.loop-v.auto.v-end, c.loop-v-test.false) in
    (rw e at c.loop-v.invariant.0, c.loop-v.invariant.1)
