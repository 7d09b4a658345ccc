-- Each return is an outcome of the tree check; few tips and many fall in tally 0.
-- Assumes nothing.
use mathlib.Core.Path.{◌≡◌, sym, ◌∙◌}
use native.Mathlib.Omega.{arith}
use Rattle.tree_check.specs.Table.{tips, nodes}
use Rattle.tree_check.specs.IsTree.{IsTree}
use Rattle.tree_check.specs.theorems.CheckLaws.{checked_accepted, table_told}
use Rattle.exchange_distances.specs.lemmas.FirstTally.{few_first, many_first}
use Rattle.exchange_distances.specs.lemmas.Outcomes.{tallies_refused, tallies_told}
use Rattle.exchange_distances.proofs.tallies.tally_exchanges.Goals.{In-Ok}
use Rattle.exchange_distances.proofs.tallies.tally_exchanges.Goals as goal

-- ---- what is known there

-- the table is a tree table, with n and m as told
tree : (c : In-Ok)
    → let t = c.args.table.now in
    IsTree t × (c.in-Ok.tree.tips ≡ tips t) × (c.in-Ok.tree.nodes ≡ nodes t)
tree c = checked_accepted _ _ (sym c.check-answer.ensures.0 ∙ c.in-Ok.is)

pub returns-in_default : goal.returns-in_default
returns-in_default c =
    let h = table_told _ _ _ _ c.check-answer.ensures.0 c.in_default.is c.refusal_of.ensures in
    tallies_refused _ _ h.0 h.1

pub all_first-requires : goal.all_first-requires
all_first-requires c =
    let t = tree (goal.at.all_first-requires c).In-Ok in
    omega (arith, c.from.ensures, t.1, t.0.tips_range)

pub returns-then-tree-lt4 : goal.returns-then-tree-lt4
returns-then-tree-lt4 c =
    let t = tree (goal.at.returns-then-tree-lt4 c).In-Ok in
    tallies_told _ t.0 _ (c.all_first.ensures
    ∙ few_first _ _ (c.from.ensures ∙ t.1) (omega (arith, c.from.ensures, c.if-tree-lt4.true)))

pub all_first-requires-then-tree-ge-LARGE : goal.all_first-requires-then-tree-ge-LARGE
all_first-requires-then-tree-ge-LARGE c =
    let t = tree (goal.at.all_first-requires-then-tree-ge-LARGE c).In-Ok in
    omega (arith, c.from-then-tree-ge-LARGE.ensures, t.1, t.0.tips_range)

pub returns-then-tree-ge-LARGE : goal.returns-then-tree-ge-LARGE
returns-then-tree-ge-LARGE c =
    let t = tree (goal.at.returns-then-tree-ge-LARGE c).In-Ok in
    tallies_told _ t.0 _ (c.all_first-then-tree-ge-LARGE.ensures
    ∙ many_first _ _ (c.from-then-tree-ge-LARGE.ensures ∙ t.1) t.0 (omega (arith, c.from-then-tree-ge-LARGE.ensures, c.if-tree-ge-LARGE.true)))

pub tallies_of-requires : goal.tallies_of-requires
tallies_of-requires c =
    let t = tree (goal.at.tallies_of-requires c).In-Ok in (
      record {
        tree = t.0;
        tips_are = c.from-2.ensures ∙ t.1;
        nodes_are = c.from-3.ensures ∙ t.2;
      },
      omega (arith, c.from-2.ensures, c.if-tree-lt4.false),
    )

pub returns : goal.returns
returns c =
    let t = tree (goal.at.returns c).In-Ok in
    tallies_told _ t.0 _ c.tallies_of.ensures
