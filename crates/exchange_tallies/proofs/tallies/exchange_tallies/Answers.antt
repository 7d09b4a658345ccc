-- Each return is an outcome of the order: the tree, then the cells.
-- Assumes nothing.
use mathlib.Core.Path.{◌≡◌, sym, ◌∙◌}
use Prim.Native.Nat.{◌-◌, ◌≤◌}
use native.Mathlib.Omega.{arith}
use Rattle.sums.specs.theorems.Products.{product_le}
use Rattle.tree_check.specs.Table.{nodes}
use Rattle.tree_check.specs.IsTree.{IsTree}
use Rattle.tree_check.specs.theorems.CheckLaws.{checked_accepted, table_told}
use Rattle.exchange_tallies.proofs.lemmas.Outcomes.{tree_away, short_away, accepted}
use Rattle.exchange_tallies.proofs.tallies.exchange_tallies.Goals.{After-from-edges}
use Rattle.exchange_tallies.proofs.tallies.exchange_tallies.Goals as goal

-- ---- what is known there

-- the table is a tree table, with m as told
tree : (c : After-from-edges) → let t = c.args.table.now in IsTree t × (c.from-edges.result ≡ nodes t)
tree c =
    let h = checked_accepted _ _ (sym c.check-answer.ensures.0 ∙ c.in-Ok.is) in
    (h.0, c.from-edges.ensures ∙ h.2)

few : (c : After-from-edges) → (1 ≤ c.from-edges.result) × (c.from-edges.result ≤ 1024)
few c = let t = tree c in omega (arith, t.1, t.0.tips_range, t.0.nodes_range)

pub returns-in_default : goal.returns-in_default
returns-in_default c =
    let h = table_told _ _ _ _ c.check-answer.ensures.0 c.in_default.is c.refusal_of.ensures in
    rw c.refused.ensures (tree_away _ _ _ h.0 h.1)

pub overflow_sub-edges : goal.overflow_sub-edges
overflow_sub-edges c = omega (arith, few c)

pub overflow_mul-cells : goal.overflow_mul-cells
overflow_mul-cells c = omega (arith, product_le 1023 1023 (c.from-edges.result - 1) (c.from-edges.result - 1) (omega (arith, few c)) (omega (arith, few c)))

pub returns-then-work-cells : goal.returns-then-work-cells
returns-then-work-cells c =
    let t = tree (goal.at.returns-then-work-cells c).After-from-edges in
    rw (c.refused-then-work-cells.ensures, c.from.ensures) (short_away _ _ t.0 _ t.1 c.if-work-cells.true)

pub returns : goal.returns
returns c =
    let t = tree (goal.at.returns c).After-from-edges in
    accepted _ _ t.0 _ t.1 (omega (arith, c.if-work-cells.false)) _ _ c.tally_exchanges.ensures c.clear.ensures
