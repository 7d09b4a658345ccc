-- What is known where the search needs a hint.
-- Assumes nothing.
use mathlib.Core.Path.{◌≡◌, refl}
use Rattle.std.proofs.Common.{rules}
use native.Mathlib.Omega.{arith}
use lib.ListN.{length}
use Rattle.tree_check.specs.Table.{word}
use Rattle.claims.specs.lemmas.CodeCells.{own_first, own_later, child_first, child_later}
use Rattle.claims.specs.lemmas.NodeBlock.{node_cell_room, row_room, first_row_room, own_filled, child_filled}
use Rattle.claims.proofs.fills.fill_block.Goals as goal

pub bounds-rows-0 : goal.bounds-rows-0
bounds-rows-0 c = omega (arith, c.requires.node_edges.rows_some)

pub overflow_mul-base : goal.overflow_mul-base
overflow_mul-base c =
    let p = c.requires in
    omega (arith, (node_cell_room _ _ _ _ _ p.node_edges 0 0 p.node_edges.rows_some p.node_edges.columns_some).low)

-- ---- the node's own edge

pub fill_row-requires-clause-room : goal.fill_row-requires-clause-room
fill_row-requires-clause-room c =
    let r = first_row_room _ _ _ _ _ c.requires.node_edges _ c.requires.block_room in
    (r.some, r.inside)

pub fill_row-requires-clause-first_callable : goal.fill_row-requires-clause-first_callable
fill_row-requires-clause-first_callable c =
    let h = c.requires.node_edges in
    let r = first_row_room _ _ _ _ _ h _ c.requires.block_room in
    search (
      rules,
      r.room 0 r.some,
      h.crossed.labels_few,
      h.crossed.neither _ _ (h.rows_inside 0 h.rows_some) (h.columns_inside 0 h.columns_some),
    )

pub fill_row-requires-clause-later_callable : goal.fill_row-requires-clause-later_callable
fill_row-requires-clause-later_callable c =
    let r = first_row_room _ _ _ _ _ c.requires.node_edges _ c.requires.block_room in
    λ j l m. search (rules, r.room j m)

pub loop-i-init : goal.loop-i-init
loop-i-init c = λ h. h

-- ---- a child's edge

pub overflow_mul-base-in-loop-i : goal.overflow_mul-base-in-loop-i
overflow_mul-base-in-loop-i c =
    omega (arith, (node_cell_room _ _ _ _ _ c.requires.node_edges _ 0 c.loop-i-test.true c.requires.node_edges.columns_some).low)

pub overflow_mul-i : goal.overflow_mul-i
overflow_mul-i c =
    omega (arith, (row_room _ _ _ _ _ c.requires.node_edges _ _ c.requires.block_room c.loop-i-test.true).low)

pub loop-i-preserved : goal.loop-i-preserved
loop-i-preserved c =
    let a = c.args in
    let d = word a.columns.now in
    let filled = c.fill_row-in-loop-i.ensures _ (λ v k. child_first a.work.now _ d v (search rules))
    (λ j v l m k. child_later a.work.now _ d j v l (search rules)) in
    λ h. child_filled _ _ _ _ _ _ _ _ _ _ c.loop-i.auto.i refl refl filled (c.loop-i.invariant h)

pub returns : goal.returns
returns c =
    let a = c.args in
    let d = word a.columns.now in
    let e : c.loop-i.i ≡ length a.rows.now = omega (arith, c.requires.node_edges.rows_some) in
    let filled = c.fill_row.ensures _ (λ v k. own_first a.work.now _ d a.n v (search rules))
    (λ j v l m k. own_later a.work.now _ d a.n j v l (search rules)) in
    rw e at (c.loop-i.invariant (own_filled _ _ _ _ _ _ _ filled))
