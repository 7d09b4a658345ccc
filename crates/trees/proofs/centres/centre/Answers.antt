-- Each return is an outcome of the centre's order. A checked table's parts are what `centre_node` asks for.
-- Assumes nothing.
use mathlib.Core.Path.{◌≡◌, sym, ◌∙◌}
use native.Mathlib.Omega.{arith}
use Rattle.tree_check.specs.Table.{tips, nodes}
use Rattle.tree_check.specs.lemmas.TableParts.{to_parts, of_parts}
use Rattle.tree_check.specs.IsTree.{IsTree}
use Rattle.tree_check.specs.theorems.CheckLaws.{checked_accepted, table_told}
use Rattle.trees.specs.lemmas.RootedArrays.{RootedArrays, rooted_arrays}
use Rattle.trees.specs.lemmas.CentreOutcomes.{centre_over, centre_refused, centre_asked_refused}
use Rattle.trees.specs.lemmas.CentreOutcomes.{centre_accepted}
use Rattle.trees.proofs.centres.centre.Goals.{In-Ok}
use Rattle.trees.proofs.centres.centre.Goals as goal

-- ---- what is known there

-- what is known of the table, n and m
known : (c : In-Ok)
    → let t = c.args.table.now in
    IsTree t × (c.in-Ok.tree.tips ≡ tips t) × (c.in-Ok.tree.nodes ≡ nodes t)
known c = checked_accepted _ _ (sym c.check-answer.ensures.0 ∙ c.in-Ok.is)

pub returns-in_default : goal.returns-in_default
returns-in_default c = let r = table_told _ _ _ _ c.check-answer.ensures.0 c.in_default.is c.refusal_of.ensures in centre_refused _ _ _ _ _ r.0 r.1

pub returns-then-number-ne0 : goal.returns-then-number-ne0
returns-then-number-ne0 c =
    let k = known (goal.at.returns-then-number-ne0 c).In-Ok in
    centre_asked_refused _ _ _ _ k.0 _ (c.from.ensures ∙ k.1) _
    c.asked_refusal-number.ensures c.if-number-ne0.true

pub slice_bounds-centre_node-end : goal.slice_bounds-centre_node-end
slice_bounds-centre_node-end c =
    let k = known (goal.at.slice_bounds-centre_node-end c).In-Ok in
    omega (arith, k.0.words, k.2)

pub slice_bounds-centre_node-count-2 : goal.slice_bounds-centre_node-count-2
slice_bounds-centre_node-count-2 c =
    let k = known (goal.at.slice_bounds-centre_node-count-2 c).In-Ok in
    omega (arith, k.0.words, k.2)

pub slice_bounds-centre_node-start-2 : goal.slice_bounds-centre_node-start-2
slice_bounds-centre_node-start-2 c =
    let k = known (goal.at.slice_bounds-centre_node-start-2 c).In-Ok in
    omega (arith, k.0.words, k.2)

pub centre_node-requires : goal.centre_node-requires
centre_node-requires c =
    let k = known (goal.at.centre_node-requires c).In-Ok in
    to_parts (λ n ps ls. RootedArrays ps ls) _ _ _ k.0.words k.1 (c.from-m.ensures ∙ k.2)
    (rooted_arrays _ k.0)

pub returns : goal.returns
returns c =
    let s = c.args in
    let k = known (goal.at.returns c).In-Ok in
    centre_accepted _ _ _ _ k.0 _ (c.from.ensures ∙ k.1) _ _
    c.asked_refusal-number.ensures c.if-number-ne0.false
    (of_parts (λ n ps ls. c.centre_node.result ≡ centre_over ps ls s.a s.b s.c)
    _ _ _ k.0.words k.1 (c.from-m.ensures ∙ k.2) c.centre_node.ensures)
