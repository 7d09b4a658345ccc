-- The five counts of two tables, formed from their sums, and what the call answers.
-- Assumes nothing.
use Rattle.std.specs.Prelude.{◌≡◌, ◌≢◌, List, ℕ, ◌+◌, ◌-◌, ◌≤◌}
use Rattle.std.proofs.Math.Path.{sym}
use Rattle.std.proofs.Common.{◌∙◌, ap, arith}
use Rattle.sums.specs.theorems.ThreesLaws.{threes, threes_mono, threes_of_255}
use Rattle.tree_check.specs.Table.{Table, tips, nodes}
use Rattle.tree_check.specs.IsTree.{IsTree}
use Rattle.tree_check.specs.Refusals.{refusal}
use Rattle.tree_check.specs.theorems.RefusalLaws.{refusal-first, refusal-kept, if_accepted_lem, if_refused}
use Rattle.marks.specs.Marks.{marks_order}
use Rattle.pair_check.specs.PairOrder.{IsPair, tables_order}
use Rattle.pair_check.specs.theorems.PairCheck.{tables_kept}
use Rattle.kept_triplets.specs.KeptAnswer.{kept_order, kept_counts, kept_answer}
use Rattle.kept_triplets.specs.lemmas.AllRows.{others_few}
use Rattle.kept_triplets.specs.lemmas.Prepare.{KeptSumsAre}
use Rattle.tree_check.specs.lemmas.Sized.{Sized}
use Rattle.triplets.specs.TripletAnswer.{refused_triplets}
use Rattle.triplets.specs.lemmas.FormedTriplets.{formed_triplets, TripletsFit}
use Rattle.triplets.proofs.lemmas.FormedTriplets.{formed_is}

-- ---- the sums of two tables, formed

pub sums_fit : (t u : Table) (marks : List ℕ) (first second alike apart number : ℕ) → IsTree t
    → KeptSumsAre t u marks first second alike apart number → TripletsFit (number + 1) first second alike apart
sums_fit t u marks first second alike apart number g s =
    let few : number ≤ 255 = omega (arith, s.number_is, others_few marks (tips t) (let r = g.tips_range in omega arith), g.tips_range.1) in
    let e : number + 1 - 1 ≡ number = omega arith in
    let all = s.all_are ∙ ap threes (sym s.number_is) in
    let low = threes_mono number 255 few in
    record {
      tips_few = omega arith;
      first_most = omega (arith, s.first_is, all, low, threes_of_255);
      second_most = omega (arith, s.second_is, all, low, threes_of_255);
      C_fits = omega (arith, s.first_is, s.alike_is, s.apart_is);
      D_fits = omega (arith, s.second_is, s.alike_is, s.apart_is);
      E_fits = rw e (omega (arith, s.first_is, s.second_is, s.alike_is, s.apart_is, all));
    }

pub counts_formed : (t u : Table) (marks : List ℕ) (first second alike apart number : ℕ)
    → KeptSumsAre t u marks first second alike apart number
    → formed_triplets (number + 1) first second alike apart ≡ kept_counts t u marks
counts_formed t u marks first second alike apart number s =
    let e : number + 1 - 1 ≡ number = omega arith in
    formed_is (number + 1) first second alike apart _ _ _ _ _ s.first_is s.second_is s.alike_is s.apart_is
    (rw e (s.all_are ∙ ap threes (sym s.number_is)))

-- ---- what the call answers

module _ (t u : Table) (marks : List ℕ) where
  turned_away : (k : ℕ) → k ≢ 0 → refusal (kept_order t u marks) ≡ k → refused_triplets k ≡ kept_answer t u marks
  unfolding kept_answer
  turned_away k d e = rw (sym e) (sym (if_refused _ (kept_counts t u marks) _ (λ q. d (sym e ∙ q))))

  pub tables_turned_away : (k : ℕ) → refusal (tables_order t u) ≡ k → k ≢ 0 → refused_triplets k ≡ kept_answer t u marks
  unfolding kept_order
  tables_turned_away k e d = turned_away k d (refusal-first (tables_order t u) _ (λ q. d (sym e ∙ q)) ∙ e)

  pub marks_turned_away : IsPair t u → (k : ℕ) → k ≡ refusal (marks_order marks (tips t)) → k ≢ 0 → refused_triplets k ≡ kept_answer t u marks
  unfolding kept_order
  marks_turned_away p k e d = turned_away k d (refusal-kept (tables_order t u) _ ((tables_kept t u).1 p) ∙ sym e)

  pub counted : IsPair t u → refusal (marks_order marks (tips t)) ≡ 0 → kept_counts t u marks ≡ kept_answer t u marks
  unfolding kept_order kept_answer
  counted p e = sym (if_accepted_lem _ (kept_counts t u marks) _ (refusal-kept (tables_order t u) _ ((tables_kept t u).1 p) ∙ e))

pub sized_of : (t : Table) (n rows m : ℕ) → IsTree t → n ≡ tips t → rows ≡ nodes t - 1 → m ≡ rows + 1 → Sized t n m
sized_of t n rows m g en er em = record {
  tree = g;
  tips_are = en;
  nodes_are = let a = g.tips_range in let b = g.nodes_range in omega arith;
}
