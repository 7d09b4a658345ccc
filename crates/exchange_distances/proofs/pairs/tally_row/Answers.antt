-- What is known where the search needs a hint.
-- Assumes nothing.
use Prim.Native.Nat.{ℕ, ◌*◌, ◌-◌, ◌/◌, ◌≤◌, ◌<◌}
use mathlib.Core.Path.{◌≡◌, ◌∙◌}
use native.Mathlib.Omega.{arith}
use Rattle.std.proofs.Common.{get_or-take, length-take-le}
use Rattle.tree_check.specs.Table.{word}
use Rattle.exchange_distances.specs.lemmas.TallyLoops.{counted_none, counted_next, counted_le}
use Rattle.exchange_distances.specs.lemmas.TallyRoom.{node_room_lem, path_room, falls_here, falls_room}
use Rattle.exchange_distances.proofs.pairs.tally_row.Goals.{After-from}
use Rattle.exchange_distances.proofs.pairs.tally_row.Goals as goal

-- ---- what is known there

before : (c : After-from) → c.loop-tip.tip-index < c.args.y
before c =
    let s = c.args in
    omega (arith, c.loop-tip-test.true, length-take-le s.y s.labelled.now (omega (arith, c.requires.row)))

node : (c : After-from)
    → c.from.result ≡ word c.args.labelled.now c.loop-tip.tip-index
node c = let s = c.args in c.from.ensures ∙ get_or-take s.y s.labelled.now c.loop-tip.tip-index 0 (before c)

node-lt : (c : After-from) → c.from.result < 1024
node-lt c = node_room_lem _ _ _ _ _ _ c.requires _ _ (before c) (node c)

-- the path takes no more than the whole
least : (c : After-from)
    → word c.args.costs.now c.from.result ≤ c.args.whole
least c = path_room _ _ _ _ _ _ c.requires _ _ (before c) (node c)

-- the tally is one of eleven, ..
falls : (c : After-from)
    → let s = c.args in
    10 * ((s.whole - word s.costs.now c.from.result) / 6) / s.sets < 11
falls c = falls_room _ _ _ _ _ _ c.requires _ _ (before c) (node c)

-- .. and is small
small : (c : After-from) (i : ℕ) → i < 11 → word c.loop-tip.tallies i ≤ 65792
small c i l =
    omega (
      arith,
      counted_le _ _ _ _ _ l c.loop-tip.invariant,
      c.requires.small _ l,
      before c,
      c.requires.row,
    )

pub loop-tip-init : goal.loop-tip-init
loop-tip-init c = counted_none _ _ c.requires.long

pub offset_bounds-costs-from : goal.offset_bounds-costs-from
offset_bounds-costs-from c = omega (arith, node-lt c)

pub bounds-costs-from : goal.bounds-costs-from
bounds-costs-from c = omega (arith, node-lt (goal.at.bounds-costs-from c).After-from)

pub overflow_sub-t : goal.overflow_sub-t
overflow_sub-t c = omega (arith, least (goal.at.overflow_sub-t c).After-from)

pub overflow_mul-t : goal.overflow_mul-t
overflow_mul-t c = omega (arith, c.requires.few)

pub nonzero_div-t-in-loop-tip : goal.nonzero_div-t-in-loop-tip
nonzero_div-t-in-loop-tip c = omega (arith, c.requires.some)

pub offset_bounds-tallies-t : goal.offset_bounds-tallies-t
offset_bounds-tallies-t c = omega (arith, falls (goal.at.offset_bounds-tallies-t c).After-from)

pub bounds-tallies-t : goal.bounds-tallies-t
bounds-tallies-t c = omega (arith, falls (goal.at.bounds-tallies-t c).After-from)

pub overflow_add-tallies : goal.overflow_add-tallies
overflow_add-tallies c = omega (arith, small (goal.at.overflow_add-tallies c).After-from _ (falls (goal.at.overflow_add-tallies c).After-from))

pub bounds-tallies-t-in-loop-tip : goal.bounds-tallies-t-in-loop-tip
bounds-tallies-t-in-loop-tip c = omega (arith, falls (goal.at.bounds-tallies-t-in-loop-tip c).After-from)

pub loop-tip-preserved : goal.loop-tip-preserved
loop-tip-preserved c =
    let l = c.loop-tip in
    counted_next _ l.tip-index _ _ _
    (falls_here _ _ _ _ _ _ c.requires _ _ (before (goal.at.loop-tip-preserved c).After-from) (node (goal.at.loop-tip-preserved c).After-from)) (falls (goal.at.loop-tip-preserved c).After-from) l.invariant

pub returns : goal.returns
returns c =
    let l = c.loop-tip in
    let e : l.tip-index ≡ c.args.y =
    omega (arith, c.loop-tip-test.false, length-take-le c.args.y c.args.labelled.now (omega (arith, c.requires.row))) in
    rw e at l.invariant
