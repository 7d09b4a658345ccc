-- An accepted table is a tree table, so it has its first two words.
-- Assumes nothing.
use mathlib.Core.Path.{sym, ap, ◌∙◌}
use Rattle.std.specs.Prelude.{Err}
use native.Mathlib.Omega.{arith}
use Rattle.std.proofs.lemmas.Result.{err_from_is_err_and}
use Rattle.tree_check.specs.theorems.TreeCheck.{tree_check}
use Rattle.tree_check.specs.theorems.CheckLaws.{answered, checked_tree, outcome_kept, outcome_refused}
use Rattle.tree_check.proofs.table.check.Goals as goal

pub returns-in_err-keeps_rules : goal.returns-in_err-keeps_rules
returns-in_err-keeps_rules c =
    let p = err_from_is_err_and c.from_residual.result c.from_residual.ensures.1 in
    answered _ _ (p.1 ∙ ap Err p.2 ∙ sym (outcome_refused _ _ c.in_err-keeps_rules.ensures))

pub bounds-table-0 : goal.bounds-table-0
bounds-table-0 c =
    let g = (tree_check _).0 (outcome_kept _ _ c.in_ok-keeps_rules.ensures) in
    omega (arith, g.words)

pub bounds-table-1 : goal.bounds-table-1
bounds-table-1 c =
    let g = (tree_check _).0 (outcome_kept _ _ c.in_ok-keeps_rules.ensures) in
    omega (arith, g.words)

pub returns : goal.returns
returns c = answered _ _ (sym (checked_tree _ (outcome_kept _ _ c.in_ok-keeps_rules.ensures)))
