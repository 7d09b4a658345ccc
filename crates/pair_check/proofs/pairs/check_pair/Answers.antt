-- Each return is an outcome of the order of two tables.
-- Assumes nothing.
use mathlib.Core.Path.{◌≡◌, sym, ◌∙◌, ap}
use Prim.Native.Nat.{ℕ, ◌-◌}
use native.Mathlib.Omega.{arith}
use Rattle.std.proofs.lemmas.Result.{err_from_is_err_and}
use Rattle.tree_check.specs.Table.{tips, nodes}
use Rattle.tree_check.specs.IsTree.{IsTree}
use Rattle.tree_check.specs.theorems.CheckLaws.{checked_accepted, checked-refusal}
use Rattle.tree_check.specs.declared.refusals.Refusal.TheVariants.{Table, Second, TipsDiffer}
use Rattle.pair_check.specs.lemmas.PairOutcomes.{first_refused, second_refused, tips-differ, tables_accepted}
use Rattle.pair_check.specs.lemmas.PairOutcomes.{second_tree, second_refusal, pair_found, pair_turned_away, edges_some}
use Rattle.pair_check.proofs.pairs.check_pair.Goals.{In_ok-one, In_ok-other}
use Rattle.pair_check.proofs.pairs.check_pair.Goals as goal

-- ---- what is known there

-- the first table is a tree table, with n and m as told
first-tree : (c : In_ok-one)
    → let t = c.args.first.now in
    IsTree t × (c.in_ok-one.one.tips ≡ tips t) × (c.in_ok-one.one.nodes ≡ nodes t)
first-tree c = checked_accepted _ _ (sym c.in_ok-one.ensures.0)

-- .. and so is the second
second-tree : (c : In_ok-other)
    → let t = c.args.second.now in
    IsTree t × (c.in_ok-other.other.tips ≡ tips t) × (c.in_ok-other.other.nodes ≡ nodes t)
second-tree c = checked_accepted _ _ (second_tree _ _ c.in_ok-other.ensures)

pub returns-in_err-one : goal.returns-in_err-one
returns-in_err-one c =
    let p = err_from_is_err_and c.from_residual.result c.from_residual.ensures.1 in
    let h = checked-refusal _ _ (sym c.in_err-one.ensures.0) in
    rw (p.1, p.2) (pair_turned_away _ _ (Table _) (first_refused _ _ _ h.0 h.1))

pub returns-in_err-other : goal.returns-in_err-other
returns-in_err-other c =
    let p = err_from_is_err_and c.from_residual-in_err-other.result c.from_residual-in_err-other.ensures.1 in
    let q = second_refusal _ _ c.in_err-other.ensures in
    let h = checked-refusal _ _ q.1 in
    let t = first-tree (goal.at.returns-in_err-other c).In_ok-one in
    rw (p.1, p.2, q.2) (pair_turned_away _ _ (Second q.0) (second_refused _ _ t.0 _ h.0 h.1))

pub returns-then-other-one : goal.returns-then-other-one
returns-then-other-one c =
    let t = first-tree (goal.at.returns-then-other-one c).In_ok-one in
    let u = second-tree (goal.at.returns-then-other-one c).In_ok-other in
    pair_turned_away _ _ TipsDiffer (tips-differ _ _ t.0 u.0 (λ e. omega (arith, c.if-other-one.true, t.1, u.1, e)))

pub overflow_sub-result : goal.overflow_sub-result
overflow_sub-result c = let t = first-tree (goal.at.overflow_sub-result c).In_ok-one in omega (arith, edges_some _ t.0, t.2, c.from.ensures)

pub overflow_sub-result-2 : goal.overflow_sub-result-2
overflow_sub-result-2 c = let u = second-tree (goal.at.overflow_sub-result-2 c).In_ok-other in omega (arith, edges_some _ u.0, u.2, c.from-2.ensures)

pub returns : goal.returns
returns c =
    let t = first-tree (goal.at.returns c).In_ok-one in
    let u = second-tree (goal.at.returns c).In_ok-other in
    pair_found _ _ _ (tables_accepted _ _ t.0 u.0 (omega (arith, c.if-other-one.false, t.1, u.1)))
    (record {
      tips = t.1;
      counted = t.1;
      rows = ap (λ (x : ℕ). x - 1) (c.from.ensures ∙ t.2);
      columns = ap (λ (x : ℕ). x - 1) (c.from-2.ensures ∙ u.2);
    })
