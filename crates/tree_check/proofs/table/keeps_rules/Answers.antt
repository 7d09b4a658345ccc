-- Each return is an outcome of the tree check's order.
-- Assumes nothing.
use mathlib.Core.Path.{◌≡◌, sym, ◌∙◌, ap, ap₂, subst}
use mathlib.Core.Bool.{true}
use Prim.Native.Nat.{ℕ, ◌+◌, ◌*◌, ◌≤◌}
use lib.Dec.{T}
use lib.ListN.{length}
use Rattle.tree_check.specs.lemmas.CheckOutcomes.{outcome}
use Rattle.tree_check.specs.Numbers.{table_named}
use Rattle.tree_check.specs.Table.{Table, word, tips, nodes}
use Rattle.tree_check.specs.lemmas.TableParts.{to_parts, of_parts}
use Rattle.tree_check.specs.TreeOrder.{tips_fit, nodes_fit, arrays_order}
use Rattle.tree_check.specs.theorems.TreeCheck.{ArraysFit, tips-iff}
use Rattle.tree_check.specs.Refusals.{refusal}
use Rattle.tree_check.specs.lemmas.CheckOutcomes.{too_short, tips_out, nodes_out, length_wrong, arrays_decide}
use Rattle.tree_check.specs.lemmas.CheckOutcomes.{arrays_fit}
use Rattle.tree_check.proofs.table.keeps_rules.Goals.{After-nodes_fit, After-tips_fit, Else-table-m}
use Rattle.tree_check.proofs.table.keeps_rules.Goals as goal

-- the table, at the test of the tips and after that of the length
abbrev table : (c : After-tips_fit) → Table
table c = c.args.table.now

abbrev tested : (c : Else-table-m) → Table
tested c = table (goal.at.Else-table-m c).After-tips_fit

-- ---- what is known there

-- what is known of n
known-n : (c : After-tips_fit) → tips_fit (tips (table c)) ≡ c.tips_fit.result
unfolding tips
known-n c = ap tips_fit (sym c.from-n.ensures) ∙ sym c.tips_fit.ensures

-- what is known of m
known-m : (c : After-nodes_fit) → let t = table (goal.at.After-nodes_fit c).After-tips_fit in
    nodes_fit (tips t) (nodes t) ≡ c.nodes_fit.result
unfolding tips nodes
known-m c =
    ap₂ nodes_fit (sym c.from-n.ensures)
    (sym c.from-m.ensures)
    ∙ sym c.nodes_fit.ensures

-- what is known where all tests of the sizes have passed
record Known (c : Else-table-m) : Type 0 where
  long : 2 ≤ length (tested c)
  tips_fit : tips_fit (tips (tested c)) ≡ true
  nodes_fit : nodes_fit (tips (tested c)) (nodes (tested c)) ≡ true
  n_is : c.from-n.result ≡ tips (tested c)
  m_is : c.from-m.result ≡ nodes (tested c)
  words : length (tested c) ≡ 2 + 2 * nodes (tested c)

known : (c : Else-table-m) → Known c
unfolding tips nodes
known c =
    let m = c.from-m.ensures in
    record {
      long = c.if-table-lt2.false;
      tips_fit = known-n (goal.at.Else-table-m c).After-tips_fit ∙ c.if-not-tips_fit.false;
      nodes_fit = known-m (goal.at.Else-table-m c).After-nodes_fit ∙ c.if-not-nodes_fit.false;
      n_is = c.from-n.ensures;
      m_is = m;
      words = c.if-table-m.false ∙ ap (λ (k : ℕ). 2 + 2 * k) m;
    }

pub returns-then-table-lt2 : goal.returns-then-table-lt2
unfolding outcome table_named
returns-then-table-lt2 c = sym (ap outcome (too_short _ c.if-table-lt2.true))

pub returns-then-not-tips_fit : goal.returns-then-not-tips_fit
unfolding outcome table_named
returns-then-not-tips_fit c =
    sym (ap outcome (tips_out _ c.if-table-lt2.false (known-n (goal.at.returns-then-not-tips_fit c).After-tips_fit ∙ c.if-not-tips_fit.true)))

pub nodes_fit-requires : goal.nodes_fit-requires
unfolding tips
nodes_fit-requires c =
    let h = (tips-iff _).0 (subst T (sym (known-n (goal.at.nodes_fit-requires c).After-tips_fit ∙ c.if-not-tips_fit.false)) tt) in
    rw c.from-n.ensures h

pub returns-then-not-nodes_fit : goal.returns-then-not-nodes_fit
unfolding outcome table_named
returns-then-not-nodes_fit c =
    sym (ap outcome (nodes_out _ c.if-table-lt2.false
    (known-n (goal.at.returns-then-not-nodes_fit c).After-tips_fit ∙ c.if-not-tips_fit.false) (known-m (goal.at.returns-then-not-nodes_fit c).After-nodes_fit ∙ c.if-not-nodes_fit.true)))

pub returns-then-table-m : goal.returns-then-table-m
unfolding nodes outcome table_named
returns-then-table-m c =
    sym (ap outcome (length_wrong _ c.if-table-lt2.false
    (known-n (goal.at.returns-then-table-m c).After-tips_fit ∙ c.if-not-tips_fit.false) (known-m (goal.at.returns-then-table-m c).After-nodes_fit ∙ c.if-not-nodes_fit.false)
    (λ e. c.if-table-m.true (e ∙ ap (λ (k : ℕ). 2 + 2 * k) (sym c.from-m.ensures)))))

pub arrays_keep_rules-requires : goal.arrays_keep_rules-requires
arrays_keep_rules-requires c =
    let k = known (goal.at.arrays_keep_rules-requires c).Else-table-m in
    to_parts (λ n ps ls. ArraysFit ps ls n) _ _ _ k.words k.n_is k.m_is
    (arrays_fit _ k.long k.tips_fit k.nodes_fit k.words)

pub returns : goal.returns
returns c =
    let k = known (goal.at.returns c).Else-table-m in
    of_parts (λ n ps ls. c.arrays_keep_rules.result ≡ outcome (refusal (arrays_order n (length ps) (word ps) (word ls))))
    _ _ _ k.words k.n_is k.m_is c.arrays_keep_rules.ensures
    ∙ sym (ap outcome (arrays_decide _ k.long k.tips_fit k.nodes_fit k.words))
