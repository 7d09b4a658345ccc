-- Each return is an outcome of the edge's order; an accepted call has a tree table, an edge of it and cells enough.
-- Assumes nothing.
use Rattle.std.proofs.Common.{◌≡◌, ℕ, ◌<◌, ◌||◌, eqb, leb, length, sym, ap, ◌∙◌, ap₂, arith}
use Rattle.tree_check.specs.Table.{Table, tips, nodes}
use Rattle.tree_check.specs.lemmas.TableParts.{table_of, to_parts, of_parts, table_of-parts, parents-length}
use Rattle.tree_check.specs.IsTree.{IsTree}
use Rattle.walks.specs.WalkOrders.{edge_order}
use Rattle.walks.specs.theorems.WalkOrderLaws.{edge_check}
use Rattle.walks.specs.lemmas.TreeArrays.{TreeArrays, tree_arrays}
use Rattle.walks.specs.lemmas.Positions.{placed}
use Rattle.walks.specs.lemmas.WalkOutcomes.{edge_tree_refused, edge_missing, edge-walk_short, edge_accepted}
use Rattle.walks.specs.lemmas.WalkOutcomes.{place_refused, place_accepted}
use Rattle.tree_check.specs.theorems.CheckLaws.{checked_accepted, table_told}
use Rattle.tree_check.specs.Refusals.{refusal}
use Rattle.walks.proofs.edges.part_beyond.Goals.{After-from-m, After-no_edge, In-Ok}
use Rattle.walks.proofs.edges.part_beyond.Goals as goal

-- ---- what is known there

-- the table is a tree table with n and m as told
accepted : (c : In-Ok)
    → let t = c.args.table.now in
    IsTree t × (c.in-Ok.tree.tips ≡ tips t) × (c.in-Ok.tree.nodes ≡ nodes t)
accepted c = checked_accepted _ _ (sym c.check-answer.ensures.0 ∙ c.in-Ok.is)

-- what the test of the edge tells
told : (c : After-no_edge)
    → let s = c.args in
    (eqb s.edge 0 || leb (nodes s.table.now) s.edge) ≡ c.no_edge.result
told c =
    let s = c.args in
    ap (λ (m : ℕ). eqb s.edge 0 || leb m s.edge) (sym (accepted (goal.at.After-no_edge c).In-Ok).2) ∙ sym c.no_edge.ensures

-- an accepted call: a tree table with n and m as indices, and the number 0
ready : (c : After-from-m)
    → let s = c.args in
    IsTree s.table.now
    × (c.from-n.result ≡ tips s.table.now)
    × (c.from-m.result ≡ nodes s.table.now)
    × (refusal (edge_order s.table.now s.edge s.cells) ≡ 0)
ready c =
    let a = accepted (goal.at.After-from-m c).In-Ok in
    let n = c.from-n.ensures ∙ a.1 in (
      a.0,
      n,
      c.from-m.ensures ∙ a.2,
      edge_accepted _ _ _ a.0 (told (goal.at.After-from-m c).After-no_edge ∙ c.if-no_edge.false) (omega (arith, c.if-cells-n.false, n)),
    )

pub returns-in_default : goal.returns-in_default
returns-in_default c =
    let h = table_told _ _ _ _ c.check-answer.ensures.0 c.in_default.is c.refusal_of.ensures in
    place_refused _ _ _ _ (edge_tree_refused _ _ _ _ h.0 h.1) h.1

pub returns-then-no_edge : goal.returns-then-no_edge
returns-then-no_edge c =
    rw c.from.ensures
    (place_refused _ _ _ _ (edge_missing _ _ _ (accepted (goal.at.returns-then-no_edge c).In-Ok).0 (told (goal.at.returns-then-no_edge c).After-no_edge ∙ c.if-no_edge.true))
    (λ z. omega arith))

pub returns-then-cells-n : goal.returns-then-cells-n
returns-then-cells-n c =
    let a = accepted (goal.at.returns-then-cells-n c).In-Ok in
    rw c.from-then-cells-n.ensures
    (place_refused _ _ _ _ (edge-walk_short _ _ _ a.0 (told (goal.at.returns-then-cells-n c).After-no_edge ∙ c.if-no_edge.false)
    (omega (arith, c.if-cells-n.true, c.from-n.ensures, a.1))) (λ z. omega arith))

pub slice_bounds-part_of-end : goal.slice_bounds-part_of-end
slice_bounds-part_of-end c = let k = ready c in omega (arith, k.2, k.0.words)

pub slice_bounds-part_of-count-2 : goal.slice_bounds-part_of-count-2
slice_bounds-part_of-count-2 c = let k = ready (goal.at.slice_bounds-part_of-count-2 c).After-from-m in omega (arith, k.2, k.0.words)

pub slice_bounds-part_of-start-2 : goal.slice_bounds-part_of-start-2
slice_bounds-part_of-start-2 c = let k = ready (goal.at.slice_bounds-part_of-start-2 c).After-from-m in omega (arith, k.2, k.0.words)

pub part_of-requires : goal.part_of-requires
part_of-requires c =
    let k = ready (goal.at.part_of-requires c).After-from-m in
    let e = (edge_check _ _ _).0 k.3 in (
      to_parts TreeArrays _ _ _ k.0.words k.1 k.2 (tree_arrays _ k.0),
      to_parts (λ n ps ls. c.from-2.result < length ps) _ _ _ k.0.words k.1 k.2
          (omega (arith, c.from-2.ensures, e.2, parents-length _ k.0.words)),
    )

pub returns : goal.returns
returns c =
    let k = ready (goal.at.returns c).After-from-m in
    of_parts (λ n ps ls. c.part_of.result ≡ placed (table_of n ps ls) c.from-2.result)
    _ _ _ k.0.words k.1 k.2 c.part_of.ensures
    ∙ ap₂ (λ (t : Table) (i : ℕ). placed t i) (table_of-parts _ k.0.words) c.from-2.ensures
    ∙ place_accepted _ _ _ k.3
