-- Each return is an outcome of the order over the two arrays.
-- Assumes nothing.
use mathlib.Core.Path.{◌≡◌, sym, ap, ◌∙◌}
use mathlib.Core.Bool.{true}
use lib.ListN.{length}
use Rattle.sums.specs.Tests.{every}
use Rattle.tree_check.specs.lemmas.CheckOutcomes.{outcome}
use Rattle.tree_check.specs.Numbers.{table_named}
use Rattle.tree_check.specs.Table.{word}
use Rattle.tree_check.specs.TreeOrder.{parent_fits, labels_fit, labels_once}
use Rattle.tree_check.specs.lemmas.CheckOutcomes.{parent_broken, label_broken, label_repeated, node_misplaced}
use Rattle.tree_check.specs.lemmas.CheckOutcomes.{arrays_kept}
use Rattle.tree_check.proofs.table.arrays_keep_rules.Goals.{Else-not-labels_fit, Else-not-labels_once, Else-not-parents_fit}
use Rattle.tree_check.proofs.table.arrays_keep_rules.Goals as goal

-- ---- what is known there

parents-fit-is : (c : Else-not-parents_fit)
    → (let s = c.args in
    every (length s.parents.now) (λ i. parent_fits i (word s.parents.now i)) ≡ true)
parents-fit-is c = sym c.parents_fit.ensures ∙ c.if-not-parents_fit.false

labels-fit-is : (c : Else-not-labels_fit)
    → (let s = c.args in
    labels_fit s.n (length s.labels.now) (word s.labels.now) ≡ true)
labels-fit-is c = sym c.labels_fit.ensures ∙ c.if-not-labels_fit.false

labels-once-is : (c : Else-not-labels_once)
    → (let s = c.args in
    labels_once s.n (length s.labels.now) (word s.labels.now) ≡ true)
labels-once-is c = sym c.labels_once.ensures ∙ c.if-not-labels_once.false

-- ---- the needs

pub returns-then-not-parents_fit : goal.returns-then-not-parents_fit
unfolding outcome table_named
returns-then-not-parents_fit c =
    sym (ap outcome (parent_broken _ _ _ c.requires (sym c.parents_fit.ensures ∙ c.if-not-parents_fit.true)))

pub returns-then-not-labels_fit : goal.returns-then-not-labels_fit
unfolding outcome table_named
returns-then-not-labels_fit c =
    sym (ap outcome (label_broken _ _ _ c.requires (parents-fit-is (goal.at.returns-then-not-labels_fit c).Else-not-parents_fit)
    (sym c.labels_fit.ensures ∙ c.if-not-labels_fit.true)))

pub returns-then-not-labels_once : goal.returns-then-not-labels_once
unfolding outcome table_named
returns-then-not-labels_once c =
    sym (ap outcome (label_repeated _ _ _ c.requires (parents-fit-is (goal.at.returns-then-not-labels_once c).Else-not-parents_fit) (labels-fit-is (goal.at.returns-then-not-labels_once c).Else-not-labels_fit)
    (sym c.labels_once.ensures ∙ c.if-not-labels_once.true)))

pub returns-then-some_misplaced : goal.returns-then-some_misplaced
unfolding outcome table_named
returns-then-some_misplaced c =
    sym (ap outcome (node_misplaced _ _ _ c.requires (parents-fit-is (goal.at.returns-then-some_misplaced c).Else-not-parents_fit) (labels-fit-is (goal.at.returns-then-some_misplaced c).Else-not-labels_fit) (labels-once-is (goal.at.returns-then-some_misplaced c).Else-not-labels_once) _
    c.tally-kids.ensures (sym c.some_misplaced.ensures ∙ c.if-some_misplaced.true)))

pub returns : goal.returns
unfolding outcome table_named
returns c =
    sym (ap outcome (arrays_kept _ _ _ c.requires (parents-fit-is (goal.at.returns c).Else-not-parents_fit) (labels-fit-is (goal.at.returns c).Else-not-labels_fit) (labels-once-is (goal.at.returns c).Else-not-labels_once) _
    c.tally-kids.ensures (sym c.some_misplaced.ensures ∙ c.if-some_misplaced.false)))
