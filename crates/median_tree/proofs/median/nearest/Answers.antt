-- Each return is an outcome of the order, or the tree that is told.
-- Assumes nothing.
use mathlib.Core.Path.{◌∙◌, ap}
use Prim.Native.Nat.{◌≤◌}
use native.Mathlib.Omega.{arith}
use Rattle.sums.specs.theorems.Products.{product_le}
use Rattle.median_tree.specs.Nearest.{refused_nearest}
use Rattle.median_tree.proofs.lemmas.Outcomes.{refused_list_lem, trees_told, trees_few, edges_few, short_work, ready, nearest_found}
use Rattle.median_tree.proofs.median.nearest.Goals.{After-clear-arg-1}
use Rattle.median_tree.proofs.median.nearest.Goals as goal

pub returns-then-trees-ne0 : goal.returns-then-trees-ne0
returns-then-trees-ne0 c =
    refused_list_lem c.args.list.now c.args.work.now c.check_list-trees.result c.check_list-trees.ensures c.if-trees-ne0.true _ c.refused.ensures

pub overflow_mul-cells : goal.overflow_mul-cells
overflow_mul-cells c =
    let k = c.check_list-trees in
    let e : k.result.edges ≤ 1023 = edges_few c.args.list.now c.args.work.now k.result k.ensures c.if-trees-ne0.false in
    omega (arith, product_le 1023 1023 k.result.edges k.result.edges e e)

pub returns-then-work-cells : goal.returns-then-work-cells
returns-then-work-cells c =
    short_work c.args.list.now c.args.work.now c.check_list-trees.result c.check_list-trees.ensures c.if-trees-ne0.false c.if-work-cells.true _
    (c.refused-then-work-cells.ensures ∙ ap refused_nearest c.from.ensures)

pub all_sums-sums-requires : goal.all_sums-sums-requires
all_sums-sums-requires c = (
  ready c.args.list.now c.args.work.now c.check_list-trees.result c.check_list-trees.ensures c.if-trees-ne0.false c.if-work-cells.false,
  trees_told c.args.list.now c.args.work.now c.check_list-trees.result c.check_list-trees.ensures c.if-trees-ne0.false,
)

-- ---- once the trees are summed

few : (c : After-clear-arg-1) → let n = c.check_list-trees.result.trees in (1 ≤ n) × (n ≤ 16)
few c =
    trees_few c.args.list.now c.args.work.now c.check_list-trees.result c.check_list-trees.ensures c.if-trees-ne0.false

pub first_least-p-requires : goal.first_least-p-requires
first_least-p-requires c = few (goal.at.first_least-p-requires c).After-clear-arg-1

pub offset_bounds-sums-p : goal.offset_bounds-sums-p
offset_bounds-sums-p c = omega (arith, c.first_least-p.ensures.1, few (goal.at.offset_bounds-sums-p c).After-clear-arg-1)

pub bounds-sums-p : goal.bounds-sums-p
bounds-sums-p c = omega (arith, c.first_least-p.ensures.1, few (goal.at.bounds-sums-p c).After-clear-arg-1)

pub returns : goal.returns
returns c =
    nearest_found c.args.list.now c.args.work.now c.check_list-trees.result c.check_list-trees.ensures c.if-trees-ne0.false c.if-work-cells.false
    _ _ _ c.all_sums-sums.ensures.0 c.all_sums-sums.ensures.1 c.clear.ensures _ _ c.first_least-p.ensures.0 c.first_least-p.ensures.1 c.as_word.ensures
