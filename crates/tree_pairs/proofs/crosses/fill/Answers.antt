-- The first table is the one made of the parts that are lent on.
-- Assumes nothing.
use mathlib.Core.Path.{◌≡◌}
use Prim.Native.Nat.{◌+◌, ◌*◌}
use native.Mathlib.Omega.{arith}
use lib.ListN.{length}
use Rattle.tree_pairs.proofs.lemmas.LentTables.{lent_length, lent_arrays, lent_crossed}
use Rattle.tree_pairs.proofs.crosses.fill.Goals.{After-from-m}
use Rattle.tree_pairs.proofs.crosses.fill.Goals as goal

-- as many words as its number of nodes tells
first-length : (c : After-from-m) → length c.args.first.now ≡ 2 + 2 * c.from-m.result
first-length c =
    lent_length _ _ c.args.work.now c.requires _ _ c.from-n.ensures c.from-m.ensures

-- ---- the needs

pub slice_bounds-fill_arrays-end : goal.slice_bounds-fill_arrays-end
slice_bounds-fill_arrays-end c = omega (arith, first-length c)

pub slice_bounds-fill_arrays-count-2 : goal.slice_bounds-fill_arrays-count-2
slice_bounds-fill_arrays-count-2 c = omega (arith, first-length (goal.at.slice_bounds-fill_arrays-count-2 c).After-from-m)

pub slice_bounds-fill_arrays-start-2 : goal.slice_bounds-fill_arrays-start-2
slice_bounds-fill_arrays-start-2 c = omega (arith, first-length (goal.at.slice_bounds-fill_arrays-start-2 c).After-from-m)

pub fill_arrays-requires : goal.fill_arrays-requires
fill_arrays-requires c =
    lent_arrays _ _ _ c.requires _ _ c.from-n.ensures c.from-m.ensures

pub returns : goal.returns
returns c =
    lent_crossed _ _ _ c.requires _ _ c.from-n.ensures c.from-m.ensures _ _
    c.fill_arrays.ensures
