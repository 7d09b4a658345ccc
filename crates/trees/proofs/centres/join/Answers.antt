-- What is known where the search needs a hint.
-- Assumes nothing.
use mathlib.Core.Path.{refl, sym, ◌∙◌}
use native.Mathlib.Omega.{arith}
use Rattle.trees.specs.lemmas.Climbing.{Climbed, first_climbs, second_climbs, third_climbs}
use Rattle.trees.specs.lemmas.Climbing.{first_second_met, first_third_met, second_third_met}
use Rattle.trees.proofs.centres.join.Goals.{After-from-x, After-from-y, After-from-z, After-from-z-else-z-y}
use Rattle.trees.proofs.centres.join.Goals as goal

-- ---- what is known there

-- each arm replaces the largest of the three by its parent
x-climbs : (c : After-from-x)
    → Climbed c.args.parents.now c.from-x.result c.loop-x.y c.loop-x.z
    c.loop-x.x c.loop-x.y c.loop-x.z
x-climbs c =
    let l = c.loop-x in
    first_climbs _ _ _ _ l.invariant.0 _ c.from-x.ensures (omega arith) (omega arith)

z-climbs-past-x : (c : After-from-z)
    → Climbed c.args.parents.now c.loop-x.x c.loop-x.y c.from-z.result
    c.loop-x.x c.loop-x.y c.loop-x.z
z-climbs-past-x c =
    let l = c.loop-x in
    third_climbs _ _ _ _ l.invariant.0 _ c.from-z.ensures (omega arith) (omega arith)

y-climbs : (c : After-from-y)
    → Climbed c.args.parents.now c.loop-x.x c.from-y.result c.loop-x.z
    c.loop-x.x c.loop-x.y c.loop-x.z
y-climbs c =
    let l = c.loop-x in
    second_climbs _ _ _ _ l.invariant.0 _ c.from-y.ensures (omega arith) (omega arith)

z-climbs-past-y : (c : After-from-z-else-z-y)
    → Climbed c.args.parents.now c.loop-x.x c.loop-x.y c.from-z-else-z-y.result
    c.loop-x.x c.loop-x.y c.loop-x.z
z-climbs-past-y c =
    let l = c.loop-x in
    third_climbs _ _ _ _ l.invariant.0 _ c.from-z-else-z-y.ensures (omega arith) (omega arith)

pub loop-x-init : goal.loop-x-init
loop-x-init c = (c.requires, refl)

pub loop-x-smaller-then-z-x : goal.loop-x-smaller-then-z-x
loop-x-smaller-then-z-x c = (x-climbs c).less

pub loop-x-preserved-then-z-x : goal.loop-x-preserved-then-z-x
loop-x-preserved-then-z-x c =
    let s = x-climbs c in
    (s.three, s.same ∙ c.loop-x.invariant.1)

pub loop-x-smaller-else-z-x : goal.loop-x-smaller-else-z-x
loop-x-smaller-else-z-x c = (z-climbs-past-x c).less

pub loop-x-preserved-else-z-x : goal.loop-x-preserved-else-z-x
loop-x-preserved-else-z-x c =
    let s = z-climbs-past-x c in
    (s.three, s.same ∙ c.loop-x.invariant.1)

pub loop-x-smaller-then-z-y : goal.loop-x-smaller-then-z-y
loop-x-smaller-then-z-y c = (y-climbs c).less

pub loop-x-preserved-then-z-y : goal.loop-x-preserved-then-z-y
loop-x-preserved-then-z-y c =
    let s = y-climbs c in
    (s.three, s.same ∙ c.loop-x.invariant.1)

pub loop-x-smaller : goal.loop-x-smaller
loop-x-smaller c = (z-climbs-past-y c).less

pub loop-x-preserved : goal.loop-x-preserved
loop-x-preserved c =
    let s = z-climbs-past-y c in
    (s.three, s.same ∙ c.loop-x.invariant.1)

pub returns-then-x-y : goal.returns-then-x-y
returns-then-x-y c =
    let i = c.loop-x.invariant in
    (sym (first_second_met _ _ _ _ i.0 c.if-x-y.true) ∙ i.1, i.0.la)

pub returns-then-x-z : goal.returns-then-x-z
returns-then-x-z c =
    let i = c.loop-x.invariant in
    (sym (first_third_met _ _ _ _ i.0 c.if-x-z.true) ∙ i.1, i.0.la)

pub returns-then-y-z : goal.returns-then-y-z
returns-then-y-z c =
    let i = c.loop-x.invariant in
    (sym (second_third_met _ _ _ _ i.0 c.if-y-z.true) ∙ i.1, i.0.lb)
