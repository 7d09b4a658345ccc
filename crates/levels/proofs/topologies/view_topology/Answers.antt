-- Each return is an outcome of the order: the tree, the levels, the labels.
-- Assumes nothing.
use mathlib.Core.Path.{◌≡◌, sym, ◌∙◌}
use Rattle.tree_check.specs.Table.{tips}
use Rattle.tree_check.specs.Refusals.{refusal}
use Rattle.tree_check.specs.IsTree.{IsTree}
use Rattle.tree_check.specs.theorems.CheckLaws.{checked_accepted, table_told}
use Rattle.levels.specs.Levels.{levels_order}
use Rattle.levels.specs.lemmas.LevelOutcomes.{levels_say}
use Rattle.levels.specs.lemmas.ViewOutcomes.{tree_away, levels_away, hidden_away, topology_passed}
use Rattle.levels.specs.theorems.LevelsCheck.{AreLevels}
use Rattle.levels.proofs.topologies.view_topology.Goals.{After-check_levels-told}
use Rattle.levels.proofs.topologies.view_topology.Goals as goal

-- ---- what is known there

-- the table is a tree table, with n as told
tree : (c : After-check_levels-told)
    → let t = c.args.table.now in IsTree t × (c.in-Ok.tree.tips ≡ tips t)
tree c =
    let h = checked_accepted _ _ (sym c.check-answer.ensures.0 ∙ c.in-Ok.is) in
    (h.0, h.1)

-- the levels are told
said : (c : After-check_levels-told)
    → let s = c.args in
    (c.check_levels-told.result.refusal ≡ refusal (levels_order s.levels.now s.viewer (tips s.table.now)))
    × (c.check_levels-told.result.refusal ≡ 0 → AreLevels s.levels.now s.viewer (tips s.table.now))
said c = let h = levels_say _ _ _ _ (tree c).1 _ c.check_levels-told.ensures in (h.0, λ z. (h.1 z).0)

pub returns-in_default : goal.returns-in_default
returns-in_default c =
    let h = table_told _ _ _ _ c.check-answer.ensures.0 c.in_default.is c.refusal_of.ensures in
    rw c.refused.ensures (tree_away _ _ _ _ _ _ _ _ h.0 h.1)

pub returns-then-told-ne0 : goal.returns-then-told-ne0
returns-then-told-ne0 c =
    rw c.refused-then-told-ne0.ensures (levels_away _ _ _ _ _ _ _ (tree (goal.at.returns-then-told-ne0 c).After-check_levels-told).0 _ (said (goal.at.returns-then-told-ne0 c).After-check_levels-told).0 c.if-told-ne0.true)

pub returns-then-some_hidden : goal.returns-then-some_hidden
returns-then-some_hidden c =
    rw (c.refused-then-some_hidden.ensures, c.from.ensures) (hidden_away _ _ _ _ _ _ _ (tree (goal.at.returns-then-some_hidden c).After-check_levels-told).0 ((said (goal.at.returns-then-some_hidden c).After-check_levels-told).1 c.if-told-ne0.false) _ c.some_hidden.ensures
    c.if-some_hidden.true)

pub returns : goal.returns
returns c =
    topology_passed _ _ _ _ _ _ _ (tree (goal.at.returns c).After-check_levels-told).0 ((said (goal.at.returns c).After-check_levels-told).1 c.if-told-ne0.false) _ c.some_hidden.ensures c.if-some_hidden.false _
    c.topology_of.ensures.0
