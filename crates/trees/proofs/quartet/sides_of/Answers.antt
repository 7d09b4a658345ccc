-- The four nodes are below `node_room`, and the totals of their marks say which labels lie beyond each edge.
-- Assumes nothing.
use native.Mathlib.Omega.{arith}
use borrow.Author.Rules.{Fits-under}
use Rattle.trees.specs.lemmas.SideCells.{FourNodes, low_zeros, low_x, low_y, low_z, low_w, small_x, small_y}
use Rattle.trees.specs.lemmas.SideCells.{small_z, small_w, marks-added}
use Rattle.trees.proofs.quartet.sides_of.Goals.{After-node_of-w}
use Rattle.trees.proofs.quartet.sides_of.Goals as goal

-- ---- what is known there

-- the nodes of the four labels
nodes : (c : After-node_of-w)
    → let s = c.args in
    FourNodes s.parents.now s.labels.now s.a s.b s.c s.d
    c.node_of-x.result c.node_of-y.result
    c.node_of-z.result c.node_of-w.result
nodes c = record {
  lists = c.requires;
  xa = c.node_of-x.ensures;
  yb = c.node_of-y.ensures;
  zc = c.node_of-z.ensures;
  wd = c.node_of-w.ensures;
}

pub offset_bounds-cells-x : goal.offset_bounds-cells-x
offset_bounds-cells-x c = omega (arith, low_x (nodes c))

pub bounds-cells-x : goal.bounds-cells-x
bounds-cells-x c = low_x (nodes c)

pub overflow_add-cells : goal.overflow_add-cells
overflow_add-cells c = Fits-under _ _ 16 (small_x (nodes c) low_zeros) tt

pub offset_bounds-cells-x-2 : goal.offset_bounds-cells-x-2
offset_bounds-cells-x-2 c = omega (arith, low_x (nodes c))

pub bounds-cells-x-2 : goal.bounds-cells-x-2
bounds-cells-x-2 c = low_x (nodes c)

pub offset_bounds-cells-y : goal.offset_bounds-cells-y
offset_bounds-cells-y c = omega (arith, low_y (nodes c))

pub bounds-cells-y : goal.bounds-cells-y
bounds-cells-y c = low_y (nodes c)

pub overflow_add-cells-2 : goal.overflow_add-cells-2
overflow_add-cells-2 c = Fits-under _ _ 16 (small_y (nodes c) low_zeros) tt

pub offset_bounds-cells-y-2 : goal.offset_bounds-cells-y-2
offset_bounds-cells-y-2 c = omega (arith, low_y (nodes c))

pub bounds-cells-y-2 : goal.bounds-cells-y-2
bounds-cells-y-2 c = low_y (nodes c)

pub offset_bounds-cells-z : goal.offset_bounds-cells-z
offset_bounds-cells-z c = omega (arith, low_z (nodes c))

pub bounds-cells-z : goal.bounds-cells-z
bounds-cells-z c = low_z (nodes c)

pub overflow_add-cells-3 : goal.overflow_add-cells-3
overflow_add-cells-3 c = Fits-under _ _ 16 (small_z (nodes c) low_zeros) tt

pub offset_bounds-cells-z-2 : goal.offset_bounds-cells-z-2
offset_bounds-cells-z-2 c = omega (arith, low_z (nodes c))

pub bounds-cells-z-2 : goal.bounds-cells-z-2
bounds-cells-z-2 c = low_z (nodes c)

pub offset_bounds-cells-w : goal.offset_bounds-cells-w
offset_bounds-cells-w c = omega (arith, low_w (nodes c))

pub bounds-cells-w : goal.bounds-cells-w
bounds-cells-w c = low_w (nodes c)

pub overflow_add-cells-4 : goal.overflow_add-cells-4
overflow_add-cells-4 c = Fits-under _ _ 16 (small_w (nodes c) low_zeros) tt

pub offset_bounds-cells-w-2 : goal.offset_bounds-cells-w-2
offset_bounds-cells-w-2 c = omega (arith, low_w (nodes c))

pub bounds-cells-w-2 : goal.bounds-cells-w-2
bounds-cells-w-2 c = low_w (nodes c)

pub returns : goal.returns
returns c = marks-added (nodes (goal.at.returns c).After-node_of-w) low_zeros _ c.add_up.ensures
