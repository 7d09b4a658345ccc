-- What the tree check's answer says of the table, and what it tells.
-- Assumes nothing.
use Rattle.std.specs.Prelude.{◌≡◌, refl, ◌≢◌, ℕ, zero, suc, Result, Ok, Err, MatchResult}
use Rattle.std.proofs.Common.{sym, ◌∙◌, ap, subst, arith}
use Rattle.tree_check.specs.declared.refusals.TableRefusal.{TableRefusal}
use Rattle.tree_check.specs.declared.table.Tree.{Tree}
use Rattle.tree_check.specs.Table.{Table, word, tips, nodes}
use Rattle.tree_check.specs.Refusals.{refusal, if_accepted}
use Rattle.tree_check.specs.IsTree.{IsTree}
use Rattle.tree_check.specs.TreeOrder.{tree_order, arrays_order}
use Rattle.tree_check.specs.theorems.RefusalLaws.{Named, named_refusal}
use Rattle.tree_check.specs.lemmas.CheckOutcomes.{outcome}
use Rattle.tree_check.specs.theorems.TreeCheck.{tree_check}
use Rattle.tree_check.specs.Numbers.{table_number, table_named}
use Rattle.tree_check.specs.theorems.NumberLaws.{table_numbered}
use Rattle.tree_check.specs.Check.{Checked, verdict, checked, number_of, tips_of, nodes_of, TreeTold}

-- ---- numbers and the rules that they name

-- the rule that a table breaks has its number
pub tree_named : (t : Table) → refusal (tree_order t) ≢ 0
    → table_number (table_named (refusal (tree_order t))) ≡ refusal (tree_order t)
tree_named t = named_refusal (λ k. table_number (table_named k)) (tree_order t) (named t)
  where
    named : (u : Table) → Named (λ k. table_number (table_named k)) (tree_order u)
    named u = unfold tree_order in unfold arrays_order in unfold table_named in (refl, (refl, (refl, (refl, (refl, (refl, (refl, (refl, tt))))))))

-- a broken rule in an outcome
pub outcome-err : (k : ℕ) → k ≢ 0 → outcome k ≡ Err (table_named k)
unfolding outcome
outcome-err zero d = absurd (d refl)
outcome-err (suc k) d = refl

-- ---- the two answers

verdict_told : (k : ℕ) (t : Table) → (k ≢ 0 → table_number (table_named k) ≡ k)
    → (number_of (verdict k t) ≡ k) × (tips_of (verdict k t) ≡ if_accepted k (tips t) 0)
    × (nodes_of (verdict k t) ≡ if_accepted k (nodes t) 0)
unfolding verdict if_accepted
verdict_told zero t h = (refl, refl, refl)
verdict_told (suc k) t h = (h (λ e. absurd (omega arith)), refl, refl)

-- an answer, and what it tells
pub answered : (t : Table) (r : Checked) → r ≡ checked t → (r ≡ checked t) × TreeTold t r
answered t r e = (e, subst (TreeTold t) (sym e) own)
  where
    own : TreeTold t (checked t)
    own = unfold checked in let h = verdict_told (refusal (tree_order t)) t (tree_named t) in
        record { number_told = h.0; tips_told = h.1; nodes_told = h.2 }

pub number_of-checked : (t : Table) → number_of (checked t) ≡ refusal (tree_order t)
unfolding checked
number_of-checked t = (verdict_told (refusal (tree_order t)) t (tree_named t)).0

pub checked_tree : (t : Table) → refusal (tree_order t) ≡ 0 → checked t ≡ Ok (record { tips = word t 0; nodes = word t 1 })
unfolding checked verdict tips nodes
checked_tree t e = ap (λ (k : ℕ). verdict k t) e

pub checked_refused : (t : Table) (k : ℕ) → refusal (tree_order t) ≡ k → k ≢ 0 → checked t ≡ Err (table_named k)
unfolding checked verdict
checked_refused t zero e d = absurd (d refl)
checked_refused t (suc k) e d = ap (λ (j : ℕ). verdict j t) e

-- ---- the answer by the outcome of the rules alone, as code finds it

-- a tree with its first two words where the rules are kept
told_by : Table → Result (Unit {0}) TableRefusal → Checked
told_by t (Ok u) = Ok (record { tips = tips t; nodes = nodes t })
told_by t (Err r) = Err r

checked_by : (t : Table) → checked t ≡ told_by t (outcome (refusal (tree_order t)))
unfolding checked verdict outcome told_by
checked_by t = go (refusal (tree_order t))
  where
    go : (k : ℕ) → verdict k t ≡ told_by t (outcome k)
    go zero = refl
    go (suc k) = refl

pub outcome_refused : (t : Table) (r : TableRefusal) → Err r ≡ outcome (refusal (tree_order t)) → checked t ≡ Err r
unfolding told_by
outcome_refused t r e = checked_by t ∙ ap (told_by t) (sym e)

pub outcome_kept : (t : Table) (u : Unit {0}) → Ok u ≡ outcome (refusal (tree_order t)) → refusal (tree_order t) ≡ 0
unfolding told_by
outcome_kept t u e = sym (number_of-checked t) ∙ ap number_of (checked_by t ∙ ap (told_by t) (sym e))

-- what an accepted answer says
pub checked_accepted : (t : Table) (tree : Tree) → checked t ≡ Ok tree
    → IsTree t × (tree.tips ≡ tips t) × (tree.nodes ≡ nodes t)
unfolding tips nodes
checked_accepted t tree e =
    let z : refusal (tree_order t) ≡ 0 = sym (number_of-checked t) ∙ ap number_of e in
    let d : ◌≡◌ {A = Checked} (Ok tree) (Ok (record { tips = word t 0; nodes = word t 1 })) = sym e ∙ checked_tree t z in
    ((tree_check t).0 z, ap tips_of d, ap nodes_of d)

-- what a refusal says
pub checked-refusal : (t : Table) (r : TableRefusal) → checked t ≡ Err r
    → (refusal (tree_order t) ≡ table_number r) × (table_number r ≢ 0)
checked-refusal t r e = (sym (number_of-checked t) ∙ ap number_of e, λ z. absurd (omega (arith, table_numbered r, z)))

-- the number that is passed on from a refused answer
pub number_passed : (t : Table) (r : TableRefusal) (number : ℕ) → Err r ≡ checked t → number ≡ table_number r
    → (refusal (tree_order t) ≡ number) × (number ≢ 0)
number_passed t r number e n = let h = checked-refusal t r (sym e) in (h.0 ∙ sym n, λ z. h.1 (sym n ∙ z))

pub refusal_passed : (t : Table) (answer : Checked) (r : TableRefusal) (number : ℕ) → answer ≡ checked t → answer ≡ Err r
    → number ≡ number_of answer → (refusal (tree_order t) ≡ number) × (number ≢ 0)
refusal_passed t answer r number a e n = number_passed t r number (sym e ∙ a) (n ∙ ap number_of e)

-- .. as `refusal_of` tells it
pub number_told : (answer : Checked) (number : ℕ) → MatchResult answer (λ _. number ≡ 0) (λ r. number ≡ table_number r)
    → number ≡ number_of answer
number_told (Ok tree) number m = m
number_told (Err r) number m = m

pub table_told : (t : Table) (answer : Checked) (r : TableRefusal) (number : ℕ) → answer ≡ checked t → answer ≡ Err r
    → MatchResult answer (λ _. number ≡ 0) (λ e. number ≡ table_number e)
    → (refusal (tree_order t) ≡ number) × (number ≢ 0)
table_told t answer r number a e m = refusal_passed t answer r number a e (number_told answer number m)
