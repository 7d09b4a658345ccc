-- What is known where the search needs a hint.
-- Assumes nothing.
use mathlib.Core.Path.{◌≡◌}
use Prim.Native.Nat.{suc, ◌+◌}
use native.Mathlib.Omega.{arith}
use Rattle.shapes.proofs.theorems.AncestorLaws.{parent-lt}
use Rattle.rerooting.specs.lemmas.Renumbering.{path_first, path_low, path_in, path_next, path_ends, off_low, off_take, off_skip, off_all}
use Rattle.rerooting.proofs.numbers.new_numbers.Goals.{else-news-w-eq-NODES, then-news-w-eq-NODES}
use Rattle.rerooting.proofs.numbers.new_numbers.Goals as goal

pub loop-v-init : goal.loop-v-init
loop-v-init c = path_first _ _ _ c.requires

pub offset_bounds-news-v : goal.offset_bounds-news-v
offset_bounds-news-v c = omega (arith, path_low _ _ _ c.requires _ _ _ c.loop-v.invariant)

pub bounds-news-v : goal.bounds-news-v
bounds-news-v c = omega (arith, path_low _ _ _ c.requires _ _ _ c.loop-v.invariant)

pub overflow_add-i : goal.overflow_add-i
overflow_add-i c = omega (arith, path_low _ _ _ c.requires _ _ _ c.loop-v.invariant)

pub offset_bounds-parents-v : goal.offset_bounds-parents-v
offset_bounds-parents-v c = omega (arith, path_low _ _ _ c.requires _ _ _ c.loop-v.invariant)

pub bounds-parents-v : goal.bounds-parents-v
bounds-parents-v c = path_in _ _ _ c.requires _ _ _ c.loop-v.invariant

pub loop-v-smaller : goal.loop-v-smaller
loop-v-smaller c =
    omega (arith, c.from-v.ensures, parent-lt _ c.requires.tree c.loop-v.v (omega (arith, c.loop-v-test.true)))

pub loop-v-preserved : goal.loop-v-preserved
loop-v-preserved c =
    let e : c.loop-v.i + 1 ≡ suc c.loop-v.i = omega arith in
    rw e (path_next _ _ _ c.requires c.loop-v.v c.loop-v.i _ (omega (arith, c.loop-v-test.true)) c.loop-v.invariant _ c.from-v.ensures)

pub overflow_add-i-2 : goal.overflow_add-i-2
overflow_add-i-2 c = omega (arith, path_low _ _ _ c.requires _ _ _ c.loop-v.invariant)

pub loop-w-init : goal.loop-w-init
loop-w-init c =
    let e : c.loop-v.i + 1 ≡ suc c.loop-v.i = omega arith in
    let z : c.loop-v.v ≡ 0 = omega (arith, c.loop-v-test.false) in
    rw e (path_ends _ _ _ c.requires c.loop-v.i _ (rw z at c.loop-v.invariant))

pub offset_bounds-news-w : goal.offset_bounds-news-w
offset_bounds-news-w c = omega (arith, c.requires.few, c.loop-w-test.true)

pub bounds-news-w : goal.bounds-news-w
bounds-news-w c = omega (arith, c.requires.few, c.loop-w-test.true)

pub offset_bounds-news-w-then-news-w-eq-NODES : goal.offset_bounds-news-w-then-news-w-eq-NODES
offset_bounds-news-w-then-news-w-eq-NODES c = omega (arith, c.requires.few, c.loop-w-test.true)

pub bounds-news-w-then-news-w-eq-NODES : goal.bounds-news-w-then-news-w-eq-NODES
bounds-news-w-then-news-w-eq-NODES c = omega (arith, c.requires.few, c.loop-w-test.true)

pub overflow_add-i-then-news-w-eq-NODES : goal.overflow_add-i-then-news-w-eq-NODES
overflow_add-i-then-news-w-eq-NODES c = omega (arith, off_low _ _ _ c.requires c.loop-w.w _ _ c.loop-w-test.true c.loop-w.invariant c.if-news-w-eq-NODES.true)

pub loop-w-preserved : goal.loop-w-preserved
loop-w-preserved c =
    let y = c.requires in
    let e : c.loop-w.w + 1 ≡ suc c.loop-w.w = omega arith in
    let f : c.loop-w.i + 1 ≡ suc c.loop-w.i = omega arith in
    rw e (elim c.if-news-w-eq-NODES.branch [ then-news-w-eq-NODES h ↦ rw (h.news-is, h.i-is, f) (off_take _ _ _ y c.loop-w.w c.loop-w.i _ c.loop-w-test.true c.loop-w.invariant h.if-news-w-eq-NODES.true) | else-news-w-eq-NODES h ↦ rw (h.news-is, h.i-is) (off_skip _ _ _ y c.loop-w.w c.loop-w.i _ c.loop-w-test.true c.loop-w.invariant h.if-news-w-eq-NODES.false) ])

pub returns : goal.returns
returns c = off_all _ _ _ c.requires _ _ _ (omega (arith, c.loop-w-test.false)) c.loop-w.invariant
