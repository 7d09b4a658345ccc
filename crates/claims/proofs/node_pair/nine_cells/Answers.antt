-- Each row of cells is one call; the nine cells are those of the two nodes.
-- Assumes nothing.
use mathlib.Core.Path.{◌∙◌}
use native.Mathlib.Omega.{arith}
use Rattle.tree_check.specs.Table.{word}
use Rattle.claims.specs.lemmas.NinePair.{three_room, own_neither, nine_S2, nine_S3, nine_few}
use Rattle.claims.proofs.node_pair.nine_cells.Goals as goal

pub bounds-columns-0 : goal.bounds-columns-0
bounds-columns-0 c = let p = c.requires in omega (arith, p.three.1)

pub bounds-columns-1 : goal.bounds-columns-1
bounds-columns-1 c = let p = c.requires in omega (arith, p.three.1)

pub bounds-columns-2 : goal.bounds-columns-2
bounds-columns-2 c = let p = c.requires in omega (arith, p.three.1)

pub bounds-rows-0 : goal.bounds-rows-0
bounds-rows-0 c =
    let p = c.requires in
    omega (arith, p.three.0)

pub overflow_mul-rows : goal.overflow_mul-rows
overflow_mul-rows c =
    let p = c.requires in
    omega (arith, (three_room _ _ _ _ _ p.node_edges p.three.0 p.three.1 0 (omega arith)).first.low)

pub own_cells-x-requires : goal.own_cells-x-requires
own_cells-x-requires c =
    let p = c.requires in record { three_room = (three_room _ _ _ _ _ p.node_edges p.three.0 p.three.1 0 (omega arith), p.node_edges.crossed.labels_few); fits = own_neither _ _ _ _ _ p.node_edges p.three.0 p.three.1 }

pub bounds-rows-1 : goal.bounds-rows-1
bounds-rows-1 c =
    let p = c.requires in
    omega (arith, p.three.0)

pub overflow_mul-rows-2 : goal.overflow_mul-rows-2
overflow_mul-rows-2 c =
    let p = c.requires in
    omega (arith, (three_room _ _ _ _ _ p.node_edges p.three.0 p.three.1 1 (omega arith)).first.low)

pub child_cells-y-requires : goal.child_cells-y-requires
child_cells-y-requires c =
    let p = c.requires in
    three_room _ _ _ _ _ p.node_edges p.three.0 p.three.1 1 (omega arith)

pub bounds-rows-2 : goal.bounds-rows-2
bounds-rows-2 c =
    let p = c.requires in
    omega (arith, p.three.0)

pub overflow_mul-rows-3 : goal.overflow_mul-rows-3
overflow_mul-rows-3 c =
    let p = c.requires in
    omega (arith, (three_room _ _ _ _ _ p.node_edges p.three.0 p.three.1 2 (omega arith)).first.low)

pub child_cells-z-requires : goal.child_cells-z-requires
child_cells-z-requires c =
    let p = c.requires in
    three_room _ _ _ _ _ p.node_edges p.three.0 p.three.1 2 (omega arith)

pub nine_terms-requires : goal.nine_terms-requires
nine_terms-requires c =
    nine_few c.args.work.now c.args.width c.args.n (word c.args.rows.now)
    (word c.args.columns.now) _ _ _ _ _ _ _ _ _
    c.own_cells-x.ensures c.child_cells-y.ensures c.child_cells-z.ensures

pub returns : goal.returns
returns c =
    let r = word c.args.rows.now in
    let d = word c.args.columns.now in (
      c.nine_terms.ensures.0
          ∙ nine_S2 c.args.work.now c.args.width c.args.n r d _ _ _ _ _ _ _ _ _
          c.own_cells-x.ensures c.child_cells-y.ensures c.child_cells-z.ensures,
      c.nine_terms.ensures.1
          ∙ nine_S3 c.args.work.now c.args.width c.args.n r d _ _ _ _ _ _ _ _ _
          c.own_cells-x.ensures c.child_cells-y.ensures c.child_cells-z.ensures,
    )
