-- What is known where the search needs a hint.
-- Assumes nothing.
use mathlib.Core.Path.{◌≡◌, sym, ◌∙◌, ap, ap₂, subst}
use Prim.Native.Nat.{ℕ, ◌+◌, ◌-◌, ◌≤◌, ◌<◌}
use native.Mathlib.Omega.{arith}
use Rattle.kept_triplets.specs.lemmas.Edges.{span_of, adds, adds_at, listed_none, listed-one, listed_other, EdgeTotals}
use Rattle.kept_triplets.proofs.edges.list_edges.Goals.{else-adds, then-adds, After-adds, After-from-p, In-loop-i}
use Rattle.kept_triplets.proofs.edges.list_edges.Goals as goal

-- ---- what is known there

low : (c : In-loop-i) → (c.loop-i.i + 2 < c.args.m) × (c.args.m ≤ 1024)
low c = (omega (arith, c.loop-i-test.true, c.requires.0.few), c.requires.0.few.1)

two : (c : After-from-p) → let s = c.args in
    EdgeTotals s.all.now s.begin.now s.end.now (c.loop-i.i + 2) c.from-p.result
two c = let s = c.args in
    subst (λ (p : ℕ). EdgeTotals s.all.now s.begin.now s.end.now (c.loop-i.i + 2) p)
    (sym c.from-p.ensures) (c.requires.0.sums _ (omega arith) (low (goal.at.After-from-p c).In-loop-i).0)

pub overflow_sub-last : goal.overflow_sub-last
overflow_sub-last c = c.requires.0.few.0

pub loop-i-init : goal.loop-i-init
loop-i-init c = listed_none _ _ c.requires.1

pub overflow_add-j : goal.overflow_add-j
overflow_add-j c = omega (arith, low c)

pub overflow_add-j-in-loop-i : goal.overflow_add-j-in-loop-i
overflow_add-j-in-loop-i c = omega (arith, low c)

pub offset_bounds-table-j : goal.offset_bounds-table-j
offset_bounds-table-j c = omega (arith, low c)

pub bounds-table-j : goal.bounds-table-j
bounds-table-j c = c.requires.0.inside _ (low (goal.at.bounds-table-j c).In-loop-i).0

pub offset_bounds-listed-count : goal.offset_bounds-listed-count
offset_bounds-listed-count c = omega (arith, low (goal.at.offset_bounds-listed-count c).In-loop-i, c.loop-i.invariant.few)

pub bounds-listed-count : goal.bounds-listed-count
bounds-listed-count c = omega (arith, low (goal.at.bounds-listed-count c).In-loop-i, c.loop-i.invariant.few)

pub bounds-begin-j : goal.bounds-begin-j
bounds-begin-j c = (two (goal.at.bounds-begin-j c).After-from-p).node

pub bounds-end-j : goal.bounds-end-j
bounds-end-j c = (two (goal.at.bounds-end-j c).After-from-p).node

pub cell-requires : goal.cell-requires
cell-requires c = (two (goal.at.cell-requires c).After-from-p).rise.0

pub bounds-begin-p : goal.bounds-begin-p
bounds-begin-p c = (two (goal.at.bounds-begin-p c).After-from-p).parent_node

pub bounds-end-p : goal.bounds-end-p
bounds-end-p c = (two (goal.at.bounds-end-p c).After-from-p).parent_node

pub cell-requires-in-loop-i : goal.cell-requires-in-loop-i
cell-requires-in-loop-i c = (two (goal.at.cell-requires-in-loop-i c).After-from-p).rise.1

-- the test that was made is that of the edge
tested : (c : After-adds) →
    let s = c.args in
    c.adds.result ≡ adds_at s.all.now s.begin.now s.end.now s.table.now (c.loop-i.i + 2)
tested c =
    let s = c.args in
    c.adds.ensures
    ∙ ap₂ adds c.cell.ensures
    (c.cell-in-loop-i.ensures ∙ ap (λ (p : ℕ). span_of s.all.now s.begin.now s.end.now p) c.from-p.ensures)

pub overflow_add-count : goal.overflow_add-count
overflow_add-count c =
    omega (arith, low (goal.at.overflow_add-count c).In-loop-i, c.loop-i.invariant.few)

pub loop-i-preserved : goal.loop-i-preserved
loop-i-preserved c =
    let lt : c.loop-i.i < 1024 = omega (arith, low (goal.at.loop-i-preserved c).In-loop-i) in
    elim c.if-adds.branch [ then-adds h ↦ rw h.count-is (listed-one _ _ _ _ lt c.loop-i.invariant (sym (tested (goal.at.loop-i-preserved c).After-adds) ∙ h.if-adds.true)) | else-adds h ↦ rw h.count-is (listed_other _ _ _ _ lt c.loop-i.invariant (sym (tested (goal.at.loop-i-preserved c).After-adds) ∙ h.if-adds.false)) ]

pub returns : goal.returns
returns c =
    let e : c.loop-i.i ≡ c.args.m - 2 = omega (arith, c.loop-i-test.false) in
    rw e at c.loop-i.invariant
