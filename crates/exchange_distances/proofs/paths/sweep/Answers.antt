-- What is known where the search needs a hint.
-- Assumes nothing.
use Prim.Native.Nat.{◌≤◌, ◌<◌}
use native.Mathlib.Omega.{arith}
use Rattle.table_words.specs.Sizes.{nodes_most}
use Rattle.tree_check.specs.Table.{word}
use Rattle.exchange_distances.specs.lemmas.WalkArrays.{inside, sweep_first, sweep_rises, sweep_mark, sweep_room}
use Rattle.exchange_distances.specs.lemmas.WalkArrays.{sweep_below, sweep_step, sweep_end, roomy_next}
use Rattle.exchange_distances.proofs.paths.sweep.Goals.{else-marks-i-eq0, then-marks-i-eq0, After-from-u, After-way_told-1}
use Rattle.exchange_distances.proofs.paths.sweep.Goals as goal

-- ---- what is known there

record Turn (c : After-way_told-1) : Type 0 where
  few : c.loop-i.i < nodes_most
  rises : word c.args.parents.now c.loop-i.i < c.loop-i.i
  size : word c.args.size.now c.loop-i.i ≤ c.args.n

known : (c : After-way_told-1) → Turn c
known c =
    let f = c.requires.0 in
    let l = c.loop-i in
    let i = c.loop-i-test.true in record {
      few = omega (arith, i, f.nodes);
      rises = sweep_rises _ _ _ _ _ f c.args.marks.now l.toward l.costs l.i l.auto.i i;
      size = sweep_below _ _ _ _ _ f c.args.marks.now l.toward l.costs l.i l.auto.i i;
    }

-- the parent's cells
parent-few : (c : After-from-u) → c.from-u.result < nodes_most
parent-few c = let k = known (goal.at.After-from-u c).After-way_told-1 in omega (arith, k.few, k.rises, c.from-u.ensures)

pub loop-i-init : goal.loop-i-init
loop-i-init c =
    let s = c.requires in
    (sweep_first _ _ _ _ _ s.0 _ _ _ s.2, s.1)

pub bounds-marks-i : goal.bounds-marks-i
bounds-marks-i c = omega (arith, (known c).few)

pub offset_bounds-costs-u : goal.offset_bounds-costs-u
offset_bounds-costs-u c = omega (arith, parent-few c)

pub bounds-costs-u : goal.bounds-costs-u
bounds-costs-u c = omega (arith, parent-few (goal.at.bounds-costs-u c).After-from-u)

pub offset_bounds-toward-u : goal.offset_bounds-toward-u
offset_bounds-toward-u c = omega (arith, parent-few (goal.at.offset_bounds-toward-u c).After-from-u)

pub bounds-toward-u : goal.bounds-toward-u
bounds-toward-u c = omega (arith, parent-few (goal.at.bounds-toward-u c).After-from-u)

pub offset_bounds-size-i : goal.offset_bounds-size-i
offset_bounds-size-i c = omega (arith, (known (goal.at.offset_bounds-size-i c).After-way_told-1).few)

pub bounds-size-i : goal.bounds-size-i
bounds-size-i c = omega (arith, (known (goal.at.bounds-size-i c).After-way_told-1).few)

pub offset_bounds-square-u : goal.offset_bounds-square-u
offset_bounds-square-u c = omega (arith, parent-few (goal.at.offset_bounds-square-u c).After-from-u)

pub bounds-square-u : goal.bounds-square-u
bounds-square-u c = omega (arith, parent-few (goal.at.bounds-square-u c).After-from-u)

pub next_cost-c-requires : goal.next_cost-c-requires
next_cost-c-requires c =
    λ d. let l = c.loop-i in
    sweep_room _ _ _ _ _ c.requires.0 _ _ _ l.i _ l.auto.i c.loop-i-test.true
    c.if-marks-i-eq0.true c.from-u.ensures d l.invariant.0

pub offset_bounds-size-i-then-marks-i-eq0 : goal.offset_bounds-size-i-then-marks-i-eq0
offset_bounds-size-i-then-marks-i-eq0 c = omega (arith, (known (goal.at.offset_bounds-size-i-then-marks-i-eq0 c).After-way_told-1).few)

pub bounds-size-i-then-marks-i-eq0 : goal.bounds-size-i-then-marks-i-eq0
bounds-size-i-then-marks-i-eq0 c = omega (arith, (known (goal.at.bounds-size-i-then-marks-i-eq0 c).After-way_told-1).few)

pub overflow_sub-toward : goal.overflow_sub-toward
overflow_sub-toward c = (known (goal.at.overflow_sub-toward c).After-way_told-1).size

pub offset_bounds-toward-i : goal.offset_bounds-toward-i
offset_bounds-toward-i c = omega (arith, (known (goal.at.offset_bounds-toward-i c).After-way_told-1).few)

pub bounds-toward-i : goal.bounds-toward-i
bounds-toward-i c = omega (arith, (known (goal.at.bounds-toward-i c).After-way_told-1).few)

pub offset_bounds-costs-i : goal.offset_bounds-costs-i
offset_bounds-costs-i c = omega (arith, (known (goal.at.offset_bounds-costs-i c).After-way_told-1).few)

pub bounds-costs-i : goal.bounds-costs-i
bounds-costs-i c = omega (arith, (known (goal.at.bounds-costs-i c).After-way_told-1).few)

pub loop-i-preserved : goal.loop-i-preserved
loop-i-preserved c =
    let l = c.loop-i in
    let f = c.requires.0 in
    let m = c.loop-i-test.true in (
      elim c.if-marks-i-eq0.branch [
        | then-marks-i-eq0 h ↦ rw (h.toward-is, h.costs-is) (sweep_step _ _ _ _ _ f _ _ _ l.i _ _ l.auto.i m h.if-marks-i-eq0.true h.from-u.ensures
            l.invariant.0 h.next_cost-c.ensures.0 h.next_cost-c.ensures.1)
        | else-marks-i-eq0 h ↦ rw (h.toward-is, h.costs-is) (sweep_mark _ _ _ _ _ f _ _ _ l.i l.auto.i m h.if-marks-i-eq0.false l.invariant.0)
      ],
      elim c.if-marks-i-eq0.branch [ then-marks-i-eq0 h ↦ rw (h.toward-is, h.costs-is) (roomy_next _ _ _ l.invariant.1 l.i _ _) | else-marks-i-eq0 h ↦ rw (h.toward-is, h.costs-is) l.invariant.1 ],
    )

pub returns : goal.returns
returns c =
    let l = c.loop-i in
    (sweep_end _ _ _ _ _ c.requires.0 _ _ _ l.i (omega (arith, inside _ _ _ _ _ c.requires.0, c.loop-i-test.false)) l.invariant.0, l.invariant.1)
