-- What is known where the search needs a hint.
-- Assumes nothing.
use Prim.Native.Nat.{◌≤◌, ◌<◌}
use mathlib.Core.Path.{◌≡◌}
use native.Mathlib.Omega.{arith}
use lib.ListN.{length}
use Rattle.table_words.specs.Sizes.{nodes_most}
use Rattle.tree_check.specs.Table.{word}
use Rattle.exchange_distances.specs.lemmas.WalkArrays.{inside, climb_first, climb_inside, climb_rises, climb_room}
use Rattle.exchange_distances.specs.lemmas.WalkArrays.{climb_step, sweep_below, roomy_mark, roomy_next}
use Rattle.exchange_distances.proofs.paths.climb.Goals.{In-loop-v}
use Rattle.exchange_distances.proofs.paths.climb.Goals as goal

-- ---- what is known there

record Turn (c : In-loop-v) : Type 0 where
  node : c.loop-v.v < length c.args.parents.now
  few : c.loop-v.v < nodes_most
  rises : word c.args.parents.now c.loop-v.v < c.loop-v.v
  size : word c.args.size.now c.loop-v.v ≤ c.args.n

known : (c : In-loop-v) → Turn c
known c =
    let f = c.requires.0 in
    let l = c.loop-v in
    let i = climb_inside _ _ _ _ _ f _ _ _ l.v l.invariant.0 in record {
      node = i;
      few = omega (arith, i, f.nodes);
      rises = climb_rises _ _ _ _ _ f _ _ _ l.v c.loop-v-test.true l.invariant.0;
      size = sweep_below _ _ _ _ _ f l.marks l.toward l.costs l.v c.loop-v-test.true i;
    }

pub bounds-marks-p : goal.bounds-marks-p
bounds-marks-p c = omega (arith, inside _ _ _ _ _ c.requires.0, c.requires.0.nodes)

pub loop-v-init : goal.loop-v-init
loop-v-init c =
    let s = c.requires in (
      climb_first _ _ _ _ _ s.0 _ _ _ s.1 s.2,
      roomy_mark _ _ _ s.1 _ 1,
    )

pub offset_bounds-parents-v : goal.offset_bounds-parents-v
offset_bounds-parents-v c = omega (arith, (known c).few)

pub bounds-parents-v : goal.bounds-parents-v
bounds-parents-v c = omega (arith, (known (goal.at.bounds-parents-v c).In-loop-v).node)

pub offset_bounds-costs-v : goal.offset_bounds-costs-v
offset_bounds-costs-v c = omega (arith, (known (goal.at.offset_bounds-costs-v c).In-loop-v).few)

pub bounds-costs-v : goal.bounds-costs-v
bounds-costs-v c = omega (arith, (known (goal.at.bounds-costs-v c).In-loop-v).few)

pub offset_bounds-toward-v : goal.offset_bounds-toward-v
offset_bounds-toward-v c = omega (arith, (known (goal.at.offset_bounds-toward-v c).In-loop-v).few)

pub bounds-toward-v : goal.bounds-toward-v
bounds-toward-v c = omega (arith, (known (goal.at.bounds-toward-v c).In-loop-v).few)

pub offset_bounds-size-v : goal.offset_bounds-size-v
offset_bounds-size-v c = omega (arith, (known (goal.at.offset_bounds-size-v c).In-loop-v).few)

pub bounds-size-v : goal.bounds-size-v
bounds-size-v c = omega (arith, (known (goal.at.bounds-size-v c).In-loop-v).few)

pub overflow_sub-n : goal.overflow_sub-n
overflow_sub-n c = (known (goal.at.overflow_sub-n c).In-loop-v).size

pub offset_bounds-square-v : goal.offset_bounds-square-v
offset_bounds-square-v c = omega (arith, (known (goal.at.offset_bounds-square-v c).In-loop-v).few)

pub bounds-square-v : goal.bounds-square-v
bounds-square-v c = omega (arith, (known (goal.at.bounds-square-v c).In-loop-v).few)

pub next_cost-c-requires : goal.next_cost-c-requires
next_cost-c-requires c =
    λ d. climb_room _ _ _ _ _ c.requires.0 _ _ _ c.loop-v.v c.loop-v-test.true d c.loop-v.invariant.0

pub bounds-marks-u : goal.bounds-marks-u
bounds-marks-u c = let k = known (goal.at.bounds-marks-u c).In-loop-v in omega (arith, k.few, k.rises, c.from-u.ensures)

pub offset_bounds-size-v-in-loop-v : goal.offset_bounds-size-v-in-loop-v
offset_bounds-size-v-in-loop-v c = omega (arith, (known (goal.at.offset_bounds-size-v-in-loop-v c).In-loop-v).few)

pub bounds-size-v-in-loop-v : goal.bounds-size-v-in-loop-v
bounds-size-v-in-loop-v c = omega (arith, (known (goal.at.bounds-size-v-in-loop-v c).In-loop-v).few)

pub offset_bounds-toward-u : goal.offset_bounds-toward-u
offset_bounds-toward-u c = let k = known (goal.at.offset_bounds-toward-u c).In-loop-v in omega (arith, k.few, k.rises, c.from-u.ensures)

pub bounds-toward-u : goal.bounds-toward-u
bounds-toward-u c = let k = known (goal.at.bounds-toward-u c).In-loop-v in omega (arith, k.few, k.rises, c.from-u.ensures)

pub offset_bounds-costs-u : goal.offset_bounds-costs-u
offset_bounds-costs-u c = let k = known (goal.at.offset_bounds-costs-u c).In-loop-v in omega (arith, k.few, k.rises, c.from-u.ensures)

pub bounds-costs-u : goal.bounds-costs-u
bounds-costs-u c = let k = known (goal.at.bounds-costs-u c).In-loop-v in omega (arith, k.few, k.rises, c.from-u.ensures)

pub loop-v-smaller : goal.loop-v-smaller
loop-v-smaller c = let k = known (goal.at.loop-v-smaller c).In-loop-v in omega (arith, k.rises, c.from-u.ensures)

pub loop-v-preserved : goal.loop-v-preserved
loop-v-preserved c =
    let l = c.loop-v in
    let o = l.invariant.1 in (
      climb_step _ _ _ _ _ c.requires.0 _ _ _ l.v _ _ c.loop-v-test.true l.invariant.0 c.from-u.ensures
          c.next_cost-c.ensures.0 c.next_cost-c.ensures.1,
      roomy_next _ _ _ (roomy_mark _ _ _ o _ 1) _ _ _,
    )

pub returns : goal.returns
returns c =
    let l = c.loop-v in
    let e : l.v ≡ 0 = omega (arith, c.loop-v-test.false) in
    (rw e at l.invariant.0, l.invariant.1)
