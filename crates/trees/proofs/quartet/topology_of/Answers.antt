-- Each return is an outcome of the topology's answer.
-- Assumes nothing.
use mathlib.Core.Path.{◌≡◌, refl, sym, ◌∙◌}
use mathlib.Core.List.{[], ◌∷◌}
use native.Mathlib.Omega.{arith}
use Rattle.tree_check.specs.Table.{tips, nodes}
use Rattle.tree_check.specs.lemmas.TableParts.{to_parts, of_parts}
use Rattle.tree_check.specs.Refusals.{refusal}
use Rattle.tree_check.specs.IsTree.{IsTree}
use Rattle.asked_labels.specs.LabelOrder.{asked_order}
use Rattle.trees.specs.lemmas.Sides.{SidesAre}
use Rattle.trees.specs.lemmas.RootedArrays.{RootedArrays, rooted_arrays}
use Rattle.trees.specs.lemmas.TopologyOutcomes.{topology_refused, topology_asked_refused, topology_found}
use Rattle.trees.specs.lemmas.TopologyOutcomes.{topology_told}
use Rattle.tree_check.specs.theorems.CheckLaws.{checked_accepted, table_told}
use Rattle.trees.proofs.quartet.topology_of.Goals.{After-from-m, In-Ok, After-asked_refusal-number}
use Rattle.trees.proofs.quartet.topology_of.Goals as goal

-- ---- what is known there

-- what is known of the table
tree : (c : In-Ok)
    → let t = c.args.table.now in
    IsTree t × (c.in-Ok.tree.tips ≡ tips t) × (c.in-Ok.tree.nodes ≡ nodes t)
tree c = checked_accepted _ _ (sym c.check-answer.ensures.0 ∙ c.in-Ok.is)

-- what is known of the labels
asked : (c : After-asked_refusal-number)
    → let s = c.args in
    refusal (asked_order (tips s.table.now) (s.a ∷ s.b ∷ s.c ∷ s.d ∷ [])) ≡ c.asked_refusal-number.result
asked c =
    let e = c.from.ensures ∙ (tree (goal.at.After-asked_refusal-number c).In-Ok).1 in
    sym (rw e at c.asked_refusal-number.ensures)

-- the same, with m as an as-index
table : (c : After-from-m)
    → let t = c.args.table.now in
    IsTree t × (c.from-m.result ≡ nodes t)
table c =
    let g = tree (goal.at.After-from-m c).In-Ok in
    (g.0, c.from-m.ensures ∙ g.2)

pub returns-in_default : goal.returns-in_default
returns-in_default c =
    let r = table_told _ _ _ _ c.check-answer.ensures.0 c.in_default.is c.refusal_of.ensures in
    topology_told _ _ _ _ _ _
    (sym (topology_refused _ _ _ _ _ _ r.0 r.1))

pub returns-then-number-ne0 : goal.returns-then-number-ne0
returns-then-number-ne0 c =
    let g = tree (goal.at.returns-then-number-ne0 c).In-Ok in
    topology_told _ _ _ _ _ _ (sym (topology_asked_refused _ _ _ _ _ g.0 _ (asked (goal.at.returns-then-number-ne0 c).After-asked_refusal-number) c.if-number-ne0.true))

pub slice_bounds-sides_of-end : goal.slice_bounds-sides_of-end
slice_bounds-sides_of-end c =
    let k = table c in
    omega (arith, k.0.words)

pub slice_bounds-sides_of-count-2 : goal.slice_bounds-sides_of-count-2
slice_bounds-sides_of-count-2 c =
    let k = table (goal.at.slice_bounds-sides_of-count-2 c).After-from-m in
    omega (arith, k.0.words)

pub slice_bounds-sides_of-start-2 : goal.slice_bounds-sides_of-start-2
slice_bounds-sides_of-start-2 c =
    let k = table (goal.at.slice_bounds-sides_of-start-2 c).After-from-m in
    omega (arith, k.0.words)

pub sides_of-sides-requires : goal.sides_of-sides-requires
sides_of-sides-requires c =
    let k = table (goal.at.sides_of-sides-requires c).After-from-m in
    to_parts (λ n ps ls. RootedArrays ps ls) _ _ _ k.0.words refl k.1 (rooted_arrays _ k.0)

pub shown_pairing-k-requires : goal.shown_pairing-k-requires
shown_pairing-k-requires c =
    let k = table (goal.at.shown_pairing-k-requires c).After-from-m in
    omega (arith, k.0.tips_range, k.0.nodes_range)

pub returns : goal.returns
returns c =
    let s = c.args in
    let h = c.sides_of-sides in
    let k = table (goal.at.returns c).After-from-m in
    topology_told _ _ _ _ _ _ (rw c.named_pairing.ensures
    (sym (topology_found _ _ _ _ _ k.0 _
    (of_parts (λ n ps ls. SidesAre ps ls s.a s.b s.c s.d h.result)
    _ _ _ k.0.words refl k.1 h.ensures)
    (asked (goal.at.returns c).After-asked_refusal-number ∙ c.if-number-ne0.false) _
    (rw k.1 at c.shown_pairing-k.ensures))))
