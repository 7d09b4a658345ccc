-- What is known where the search needs a hint.
-- Assumes nothing.
use Prim.Native.Nat.{◌*◌, ◌≤◌, ◌<◌}
use mathlib.Core.Path.{refl}
use native.Mathlib.Omega.{arith}
use Rattle.table_words.specs.Sizes.{nodes_most}
use Rattle.tree_check.specs.Table.{word}
use Rattle.exchange_distances.specs.lemmas.SquareLoops.{size_square, adding_first, parent-lt, adding_small, adding_next}
use Rattle.exchange_distances.specs.lemmas.SquareLoops.{adding_done, some_node}
use Rattle.exchange_distances.proofs.arrays.squares.Goals.{After-from-u, In-loop-i}
use Rattle.exchange_distances.proofs.arrays.squares.Goals as goal

-- ---- what is known there

few : (c : In-loop-i) → c.loop-i.i < nodes_most
few c = omega (arith, c.loop-i-test.true, c.requires.0.nodes)

-- the parent's cell, what it holds, and what is added
record Turn (c : After-from-u) : Type 0 where
  parent : c.from-u.result < nodes_most
  held : word c.loop-i.square c.from-u.result ≤ 65536 * c.loop-i.i
  added : word c.args.size.now c.loop-i.i
      * word c.args.size.now c.loop-i.i ≤ 65536

known : (c : After-from-u) → Turn c
known c =
    let l = c.loop-i in
    let z = c.requires.0 in
    let p = parent-lt _ _ _ z l.square l.i l.auto.i in
    let u : c.from-u.result < l.i = omega (arith, p, c.from-u.ensures) in
    record {
      parent = omega (arith, u, few (goal.at.After-from-u c).In-loop-i);
      held = adding_small _ _ _ z l.square l.i _ l.auto.i (omega (arith, u, c.loop-i-test.true)) l.invariant;
      added = size_square _ _ _ z l.i c.loop-i-test.true;
    }

pub square_rest-requires : goal.square_rest-requires
square_rest-requires c = c.requires

pub loop-i-init : goal.loop-i-init
loop-i-init c =
    adding_first _ _ _ c.requires.0 _ c.square_rest.ensures

pub offset_bounds-parents-i : goal.offset_bounds-parents-i
offset_bounds-parents-i c = omega (arith, few c)

pub offset_bounds-size-i : goal.offset_bounds-size-i
offset_bounds-size-i c = omega (arith, few (goal.at.offset_bounds-size-i c).In-loop-i)

pub bounds-size-i : goal.bounds-size-i
bounds-size-i c = omega (arith, few (goal.at.bounds-size-i c).In-loop-i)

pub offset_bounds-square-u : goal.offset_bounds-square-u
offset_bounds-square-u c = omega (arith, (known (goal.at.offset_bounds-square-u c).After-from-u).parent)

pub bounds-square-u : goal.bounds-square-u
bounds-square-u c = omega (arith, (known (goal.at.bounds-square-u c).After-from-u).parent)

pub overflow_mul-square : goal.overflow_mul-square
overflow_mul-square c = omega (arith, (known (goal.at.overflow_mul-square c).After-from-u).added)

pub overflow_add-square : goal.overflow_add-square
overflow_add-square c = let k = known (goal.at.overflow_add-square c).After-from-u in omega (arith, k.added, k.held, few (goal.at.overflow_add-square c).In-loop-i)

pub bounds-square-u-in-loop-i : goal.bounds-square-u-in-loop-i
bounds-square-u-in-loop-i c = omega (arith, (known (goal.at.bounds-square-u-in-loop-i c).After-from-u).parent)

pub loop-i-preserved : goal.loop-i-preserved
loop-i-preserved c =
    let l = c.loop-i in
    adding_next _ _ _ c.requires.0 l.square l.i _ _ l.auto.i c.loop-i-test.true c.from-u.ensures refl
    l.invariant

pub returns : goal.returns
returns c =
    λ s z. let l = c.loop-i in
    record {
      sized = z;
      sums = adding_done _ _ _ c.requires.0 _ l.i (omega (arith, c.loop-i-test.false, some_node _ _ _ c.requires.0)) l.invariant s z;
    }
