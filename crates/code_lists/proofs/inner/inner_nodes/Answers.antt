-- What is known where the search needs a hint.
-- Assumes nothing.
use mathlib.Core.Path.{◌≡◌}
use Prim.Native.Nat.{suc, ◌+◌, ◌-◌, ◌<◌}
use native.Mathlib.Omega.{arith}
use lib.ListN.{length}
use Rattle.tree_check.specs.Table.{word}
use Rattle.code_lists.specs.lemmas.InnerNodes.{no_inner, inner_skip, inner_next}
use Rattle.code_lists.specs.lemmas.InnerNodes.{inner_le, inner_cells, inner_none}
use Rattle.code_lists.proofs.inner.inner_nodes.Goals.{else-is_inner, then-is_inner, After-codes_between-is_inner}
use Rattle.code_lists.proofs.inner.inner_nodes.Goals as goal

-- ---- what is asked there

-- how many codes lead into node v - 1
codes : (c : After-codes_between-is_inner)
    → (let v = c.loop-v.v in
    let starts = c.args.starts.now in
    c.codes_between-is_inner.result ≡ word starts (suc (v - 1)) - word starts (v - 1))
codes c =
    let v = c.loop-v.v in
    let e : suc (v - 1) ≡ v = omega arith in
    rw e c.codes_between-is_inner.ensures

-- there is a cell for it
room : (c : After-codes_between-is_inner)
    → (let l = c.loop-v in l.count < length l.inner)
room c =
    let h = c.loop-v.invariant.1 in
    omega (
      arith,
      h.long,
      h.many,
      inner_le c.args.starts.now (c.loop-v.v - 1),
      c.if-inner-starts.false,
      c.loop-v-test.true,
      c.loop-v.auto.v,
    )

pub returns-then-inner-starts : goal.returns-then-inner-starts
returns-then-inner-starts c = inner_none _ _ c.if-inner-starts.true

pub loop-v-init : goal.loop-v-init
loop-v-init c = (omega arith, no_inner _ _)

pub offset_bounds-inner-count : goal.offset_bounds-inner-count
offset_bounds-inner-count c = omega (arith, room (goal.at.offset_bounds-inner-count c).After-codes_between-is_inner)

pub bounds-inner-count : goal.bounds-inner-count
bounds-inner-count c = room (goal.at.bounds-inner-count c).After-codes_between-is_inner

pub overflow_add-count : goal.overflow_add-count
overflow_add-count c = omega (arith, room (goal.at.overflow_add-count c).After-codes_between-is_inner)

pub loop-v-preserved : goal.loop-v-preserved
loop-v-preserved c =
    let l = c.loop-v in
    let h = l.invariant.1 in
    let d = codes (goal.at.loop-v-preserved c).After-codes_between-is_inner in
    let e : l.v + 1 - 1 ≡ suc (l.v - 1) = omega arith in (
      omega (arith, c.loop-v-test.true),
      rw e (elim c.if-is_inner.branch [ then-is_inner w ↦ rw (w.inner-is, w.count-is) (inner_next _ _ _ _ _ h (omega (arith, d, w.if-is_inner.true)) (room (goal.at.loop-v-preserved c).After-codes_between-is_inner)) | else-is_inner w ↦ rw (w.inner-is, w.count-is) (inner_skip _ _ _ _ _ h (omega (arith, d, w.if-is_inner.false))) ]),
    )

pub returns : goal.returns
returns c =
    let l = c.loop-v in
    inner_cells _ _ (l.v - 1) _ _ c.if-inner-starts.false (omega (arith, l.invariant.0, c.loop-v-test.false))
    l.invariant.1
