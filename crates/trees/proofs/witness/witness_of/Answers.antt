-- Each return is an outcome of the witness's answer.
-- Assumes nothing.
use mathlib.Core.Path.{◌≡◌, refl, sym, ◌∙◌}
use mathlib.Core.List.{[], ◌∷◌}
use native.Mathlib.Omega.{arith}
use Rattle.tree_check.specs.Table.{tips, nodes}
use Rattle.tree_check.specs.lemmas.TableParts.{to_parts, of_parts}
use Rattle.tree_check.specs.Refusals.{refusal}
use Rattle.tree_check.specs.IsTree.{IsTree}
use Rattle.tree_check.specs.theorems.CheckLaws.{checked_accepted, table_told}
use Rattle.asked_labels.specs.LabelOrder.{asked_order}
use Rattle.trees.specs.lemmas.RootedArrays.{RootedArrays, rooted_arrays}
use Rattle.trees.specs.lemmas.Seen.{Seen, witness_refused, witness_asked_refused, witness_found, witness_told}
use Rattle.trees.proofs.witness.witness_of.Goals.{After-from-m, In-Ok, After-asked_refusal-number}
use Rattle.trees.proofs.witness.witness_of.Goals as goal

-- ---- what is known there

-- what is known of the table
tree : (c : In-Ok)
    → let t = c.args.table.now in
    IsTree t × (c.in-Ok.tree.tips ≡ tips t) × (c.in-Ok.tree.nodes ≡ nodes t)
tree c = checked_accepted _ _ (sym c.check-answer.ensures.0 ∙ c.in-Ok.is)

-- what is known of the labels
asked : (c : After-asked_refusal-number)
    → let s = c.args in
    refusal (asked_order (tips s.table.now) (s.a ∷ s.b ∷ s.c ∷ s.d ∷ [])) ≡ c.asked_refusal-number.result
asked c =
    let e = c.from.ensures ∙ (tree (goal.at.After-asked_refusal-number c).In-Ok).1 in
    sym (rw e at c.asked_refusal-number.ensures)

-- the same, with m as an as-index
table : (c : After-from-m)
    → let t = c.args.table.now in
    IsTree t × (c.from-m.result ≡ nodes t)
table c =
    let g = tree (goal.at.After-from-m c).In-Ok in
    (g.0, c.from-m.ensures ∙ g.2)

pub returns-in_default : goal.returns-in_default
returns-in_default c =
    let r = table_told _ _ _ _ c.check-answer.ensures.0 c.in_default.is c.refusal_of.ensures in
    witness_told _ _ _ _ _ _ (sym (witness_refused _ _ _ _ _ _ r.0 r.1))

pub returns-then-number-ne0 : goal.returns-then-number-ne0
returns-then-number-ne0 c =
    let g = tree (goal.at.returns-then-number-ne0 c).In-Ok in
    witness_told _ _ _ _ _ _ (sym (witness_asked_refused _ _ _ _ _ g.0 _ (asked (goal.at.returns-then-number-ne0 c).After-asked_refusal-number) c.if-number-ne0.true))

pub slice_bounds-seen-end : goal.slice_bounds-seen-end
slice_bounds-seen-end c =
    let k = table c in
    omega (arith, k.0.words)

pub slice_bounds-seen-count-2 : goal.slice_bounds-seen-count-2
slice_bounds-seen-count-2 c =
    let k = table (goal.at.slice_bounds-seen-count-2 c).After-from-m in
    omega (arith, k.0.words)

pub slice_bounds-seen-start-2 : goal.slice_bounds-seen-start-2
slice_bounds-seen-start-2 c =
    let k = table (goal.at.slice_bounds-seen-start-2 c).After-from-m in
    omega (arith, k.0.words)

pub seen-requires : goal.seen-requires
seen-requires c =
    let k = table (goal.at.seen-requires c).After-from-m in
    to_parts (λ n ps ls. RootedArrays ps ls) _ _ _ k.0.words refl k.1 (rooted_arrays _ k.0)

pub returns : goal.returns
returns c =
    let s = c.args in
    let k = table (goal.at.returns c).After-from-m in
    witness_told _ _ _ _ _ _ (sym (witness_found _ _ _ _ _ k.0 (asked (goal.at.returns c).After-asked_refusal-number ∙ c.if-number-ne0.false) _
    (of_parts (λ n ps ls. Seen ps ls s.a s.b s.c s.d c.seen.result)
    _ _ _ k.0.words refl k.1 c.seen.ensures)))
