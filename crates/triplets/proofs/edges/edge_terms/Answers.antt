-- What is known where the search needs a hint.
-- Assumes nothing.
use mathlib.Core.Path.{◌≡◌, ◌∙◌, ap, ap₂}
use Prim.Native.Nat.{ℕ, ◌+◌, ◌-◌, ◌≤◌}
use native.Mathlib.Omega.{arith}
use lib.ListN.{length}
use Rattle.sums.specs.theorems.SumLaws.{sum_step}
use Rattle.shapes.specs.theorems.TripletCounts.{edge_term}
use Rattle.tree_pairs.specs.lemmas.EdgeRows.{above_in, row_size}
use Rattle.tree_pairs.proofs.lemmas.EdgeRows.{parent-word}
use Rattle.triplets.specs.lemmas.EdgeSums.{edge_sum}
use Rattle.triplets.proofs.lemmas.EdgeSums.{sum-start, edge_term_most}
use Rattle.triplets.specs.lemmas.EdgeSums.{EdgeSizes}
use Rattle.triplets.proofs.lemmas.EdgeSums.{edge_sizes, edges_low}
use Rattle.triplets.proofs.edges.edge_terms.Goals.{After-from-above, After-edge_term-total}
use Rattle.triplets.proofs.edges.edge_terms.Goals as goal

-- ---- what is known there

-- the cells of the edge
cells : (c : After-from-above)
    → (let s = c.args in
    EdgeSizes s.work.now s.step s.parents.now c.loop-i.i (c.from-above.result - 1))
cells c =
    edge_sizes _ _ _ c.requires _ _ c.loop-i-test.true (ap (λ (x : ℕ). x - 1) c.from-above.ensures)

-- the term that is added
term : (c : After-edge_term-total)
    → (let s = c.args in
    let i = c.loop-i.i in
    c.edge_term-total.result
    ≡ edge_term (row_size s.work.now s.step (i + 1)) (row_size s.work.now s.step (above_in s.parents.now (i + 1))))
term c =
    c.edge_term-total.ensures
    ∙ ap₂ edge_term c.cell_count.ensures.0 c.cell_count-in-loop-i.ensures.0
    ∙ (cells (goal.at.After-edge_term-total c).After-from-above).term

edge-most : (c : After-edge_term-total) → c.edge_term-total.result ≤ 16777216
edge-most c =
    let s = (cells (goal.at.After-edge_term-total c).After-from-above).sizes in
    rw (← term c) at (rw (cells (goal.at.After-edge_term-total c).After-from-above).term at (edge_term_most _ _ s.0 s.1))

-- ---- the needs

pub loop-i-init : goal.loop-i-init
loop-i-init c = sum-start _

pub overflow_sub-above : goal.overflow_sub-above
overflow_sub-above c =
    omega (arith, c.from-above.ensures, (parent-word _ c.requires.room.parents _ c.loop-i-test.true).0)

pub overflow_add-total : goal.overflow_add-total
overflow_add-total c =
    let a = c.args in
    omega (
      arith,
      edge-most c,
      c.loop-i.invariant,
      edges_low a.work.now a.step a.parents.now c.requires c.loop-i.i
          (omega arith),
    )

pub loop-i-preserved : goal.loop-i-preserved
loop-i-preserved c =
    sum_step _ _ _ _ c.loop-i.invariant (term c)

pub returns : goal.returns
unfolding edge_sum
returns c =
    let l = c.loop-i in
    let e : l.i ≡ length c.args.parents.now - 2 =
    omega (arith, c.loop-i-test.false) in
    rw e at l.invariant
