-- What is known where the search needs a hint.
-- Assumes nothing.
use mathlib.Core.Path.{◌≡◌, refl, ◌∙◌, ap, ap₂}
use Prim.Native.Nat.{ℕ, ◌+◌, ◌≤◌, ◌<◌}
use native.Mathlib.Omega.{arith}
use lib.ListN.{take}
use Rattle.std.proofs.Common.{get_or-take, length-take-le}
use Rattle.tree_check.specs.Table.{word}
use Rattle.sums.specs.Sum.{sum}
use Rattle.sums.specs.theorems.SumLaws.{sum_step}
use Rattle.shapes.specs.theorems.TripletCounts.{edge_term}
use Rattle.kept_triplets.specs.lemmas.Edges.{span_of, EdgeTotals, edge_listed, edges_low}
use Rattle.kept_triplets.proofs.edges.edge_terms.Goals.{After-edge_term-total, After-from-p, In-loop-j}
use Rattle.kept_triplets.proofs.edges.edge_terms.Goals as goal

-- ---- what is known there

-- the node is one of those that are listed
at : (c : In-loop-j) → let s = c.args in
    (c.loop-j.j-index < s.count) × (word (take s.count s.listed.now) c.loop-j.j-index ≡ word s.listed.now c.loop-j.j-index)
at c =
    let s = c.args in
    let l : c.loop-j.j-index < s.count =
    omega (arith, c.loop-j-test.true, length-take-le s.count s.listed.now (omega (arith, c.requires.few))) in
    (l, get_or-take s.count s.listed.now c.loop-j.j-index 0 l)

two : (c : After-from-p) → let s = c.args in
    EdgeTotals s.all.now s.begin.now s.end.now (word (take s.count s.listed.now) c.loop-j.j-index) c.from-p.result
two c =
    let a = at (goal.at.After-from-p c).In-loop-j in
    rw (c.from-p.ensures, a.1) (c.requires.sums _ a.0)

step : (c : After-edge_term-total) → let s = c.args in
    c.loop-j.total + c.edge_term-total.result ≡ sum (c.loop-j.j-index + 1) (edge_listed s.all.now s.begin.now s.end.now s.table.now s.listed.now)
step c =
    let s = c.args in
    let j = (at (goal.at.After-edge_term-total c).In-loop-j).1 in
    sum_step c.loop-j.j-index (edge_listed s.all.now s.begin.now s.end.now s.table.now s.listed.now) _ _ c.loop-j.invariant
    (c.edge_term-total.ensures ∙ ap₂ edge_term (c.cell.ensures ∙ ap (span_of s.all.now s.begin.now s.end.now) j)
    (c.cell-in-loop-j.ensures ∙ ap (span_of s.all.now s.begin.now s.end.now) (c.from-p.ensures ∙ ap (λ (k : ℕ). word s.table.now (2 + k)) j)))

low : (c : After-edge_term-total) → let s = c.args in
    sum (c.loop-j.j-index + 1) (edge_listed s.all.now s.begin.now s.end.now s.table.now s.listed.now) ≤ 17179869184
low c = edges_low _ _ _ _ _ _ c.requires (c.loop-j.j-index + 1) (omega (arith, at (goal.at.After-edge_term-total c).In-loop-j))

pub loop-j-init : goal.loop-j-init
loop-j-init c = unfold sum in refl

pub bounds-begin-j : goal.bounds-begin-j
bounds-begin-j c = (two (goal.at.bounds-begin-j c).After-from-p).node

pub bounds-end-j : goal.bounds-end-j
bounds-end-j c = (two (goal.at.bounds-end-j c).After-from-p).node

pub cell-requires : goal.cell-requires
cell-requires c = (two (goal.at.cell-requires c).After-from-p).rise.0

pub bounds-begin-p : goal.bounds-begin-p
bounds-begin-p c = (two (goal.at.bounds-begin-p c).After-from-p).parent_node

pub bounds-end-p : goal.bounds-end-p
bounds-end-p c = (two (goal.at.bounds-end-p c).After-from-p).parent_node

pub cell-requires-in-loop-j : goal.cell-requires-in-loop-j
cell-requires-in-loop-j c = (two (goal.at.cell-requires-in-loop-j c).After-from-p).rise.1

pub edge_term-total-requires : goal.edge_term-total-requires
edge_term-total-requires c = let z = (two (goal.at.edge_term-total-requires c).After-from-p).sizes in (omega (arith, c.cell.ensures, c.cell-in-loop-j.ensures, z.0), omega (arith, c.cell-in-loop-j.ensures, z.1))

pub overflow_add-total : goal.overflow_add-total
overflow_add-total c = omega (arith, step c, low c)

pub loop-j-preserved : goal.loop-j-preserved
loop-j-preserved c = step c

pub returns : goal.returns
returns c =
    let e : c.loop-j.j-index ≡ c.args.count = omega (arith, c.loop-j-test.false, length-take-le c.args.count c.args.listed.now (omega (arith, c.requires.few))) in
    rw e at c.loop-j.invariant
