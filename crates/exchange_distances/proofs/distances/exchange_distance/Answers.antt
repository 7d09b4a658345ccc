-- Each return is an outcome of the order of two labels.
-- Assumes nothing.
use mathlib.Core.Path.{◌≡◌, sym, ◌∙◌, ap₂}
use Rattle.tree_check.specs.Table.{tips, nodes}
use Rattle.tree_check.specs.IsTree.{IsTree}
use Rattle.tree_check.specs.theorems.CheckLaws.{checked_accepted, table_told}
use Rattle.exchanges.specs.Exchanges.{exchange_distance}
use Rattle.exchange_distances.specs.lemmas.Outcomes.{distance_refused, labels_refused, two_labels, distance_told_lem}
use Rattle.exchange_distances.proofs.distances.exchange_distance.Goals.{After-asked_refusal-number}
use Rattle.exchange_distances.proofs.distances.exchange_distance.Goals as goal

-- ---- what is known there

-- the table is a tree table, with n and m as told
tree : (c : After-asked_refusal-number)
    → let t = c.args.table.now in
    IsTree t × (c.in-Ok.tree.tips ≡ tips t) × (c.in-Ok.tree.nodes ≡ nodes t)
tree c =
    checked_accepted _ _ (sym c.check-answer.ensures.0 ∙ c.in-Ok.is)

pub returns-in_default : goal.returns-in_default
returns-in_default c =
    let h = table_told _ _ _ _ c.check-answer.ensures.0 c.in_default.is c.refusal_of.ensures in
    distance_refused _ _ _ _ h.0 h.1

pub returns-then-number-ne0 : goal.returns-then-number-ne0
returns-then-number-ne0 c =
    let t = tree (goal.at.returns-then-number-ne0 c).After-asked_refusal-number in
    labels_refused _ _ _ t.0 _ (c.from.ensures ∙ t.1) _ c.asked_refusal-number.ensures c.if-number-ne0.true

pub distance_of-distance-requires : goal.distance_of-distance-requires
distance_of-distance-requires c =
    let t = tree (goal.at.distance_of-distance-requires c).After-asked_refusal-number in (
      record {
        tree = t.0;
        tips_are = c.from-2.ensures ∙ t.1;
        nodes_are = c.from-3.ensures ∙ t.2;
      },
      two_labels _ _ _ t.0 _ (c.from.ensures ∙ t.1) _ c.asked_refusal-number.ensures
          c.if-number-ne0.false _ _ _ (c.from-2.ensures ∙ t.1)
          c.from-4.ensures c.from-5.ensures,
    )

pub returns : goal.returns
returns c =
    let t = tree (goal.at.returns c).After-asked_refusal-number in
    distance_told_lem _ _ _ t.0 _ (c.from.ensures ∙ t.1) _ c.asked_refusal-number.ensures
    c.if-number-ne0.false _
    (c.distance_of-distance.ensures
    ∙ ap₂ (exchange_distance c.args.table.now) c.from-4.ensures c.from-5.ensures)
