-- Each return is an outcome of the call's order.
-- Assumes nothing.
use mathlib.Core.Path.{◌≡◌, sym, ◌∙◌}
use native.Mathlib.Omega.{arith}
use Rattle.tree_check.specs.Table.{tips, nodes}
use Rattle.tree_check.specs.IsTree.{IsTree}
use Rattle.tree_check.specs.theorems.CheckLaws.{checked_accepted, table_told}
use Rattle.rerooting.specs.lemmas.Writing.{reroot_tree_refused, reroot_no_label, reroot_too_short, reroot_accepted}
use Rattle.rerooting.proofs.tables.reroot.Goals.{In-Ok}
use Rattle.rerooting.proofs.tables.reroot.Goals as goal

-- ---- what is known there

record Known (c : In-Ok) : Type 0 where
  tree : IsTree c.args.table.now
  n_is : c.in-Ok.tree.tips ≡ tips c.args.table.now
  m_is : c.in-Ok.tree.nodes ≡ nodes c.args.table.now

known : (c : In-Ok) → Known c
known c =
    let a = checked_accepted _ _ (sym c.check-answer.ensures.0 ∙ c.in-Ok.is) in
    record { tree = a.0; n_is = a.1; m_is = a.2 }

pub returns-in_default : goal.returns-in_default
returns-in_default c =
    let h = table_told _ _ _ _ c.check-answer.ensures.0 c.in_default.is c.refusal_of.ensures in
    reroot_tree_refused _ _ _ _ h.0 h.1

pub returns-then-tree-label : goal.returns-then-tree-label
returns-then-tree-label c = let k = known (goal.at.returns-then-tree-label c).In-Ok in rw c.from.ensures (reroot_no_label _ _ _ k.tree (omega (arith, c.if-tree-label.true, k.n_is)))

pub returns-then-out-m : goal.returns-then-out-m
returns-then-out-m c = let k = known (goal.at.returns-then-out-m c).In-Ok in rw c.from-then-out-m.ensures (reroot_too_short _ _ _ k.tree (omega (arith, c.if-tree-label.false, k.n_is)) (omega (arith, c.if-out-m.true, c.from-m.ensures, k.m_is)))

pub write_table-requires : goal.write_table-requires
write_table-requires c = let k = known (goal.at.write_table-requires c).In-Ok in (k.tree, c.from-m.ensures ∙ k.m_is, omega (arith, c.if-tree-label.false, k.n_is), omega (arith, c.if-out-m.false, c.from-m.ensures, k.m_is))

pub returns : goal.returns
returns c =
    let k = known (goal.at.returns c).In-Ok in
    let a = reroot_accepted c.args.table.now c.args.label c.args.out.now k.tree (omega (arith, c.if-tree-label.false, k.n_is)) (omega (arith, c.if-out-m.false, c.from-m.ensures, k.m_is)) in
    (a.0, c.write_table.ensures ∙ a.1)
