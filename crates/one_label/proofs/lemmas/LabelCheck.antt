-- Two tables, the marks and a label, as code checks them.
-- Assumes nothing.
use Rattle.std.specs.Prelude.{◌≡◌, refl, ◌≢◌, List, [], ◌∷◌, ℕ, ◌+◌, ◌-◌, ◌≤◌, ◌<◌, Result, Ok, Err, MatchResult, leb}
use Rattle.std.proofs.Math.Path.{sym}
use Rattle.std.proofs.Common.{◌∙◌, subst, arith, le-leb}
use Rattle.std.proofs.lemmas.Bool.{lt-leb}
use Rattle.tree_check.specs.Table.{Table, tips, nodes}
use Rattle.tree_check.specs.Refusals.{refusal}
use Rattle.tree_check.specs.declared.refusals.Refusal.{Refusal}
use Rattle.tree_check.specs.declared.refusals.Refusal.TheVariants.{TooLarge}
use Rattle.tree_check.specs.Numbers.{refusal_number}
use Rattle.tree_check.specs.theorems.NumberLaws.{refusal_numbered, number_is, passed_on}
use Rattle.tree_check.specs.theorems.RefusalLaws.{refusal-first, refusal-kept, refusal_here, refusal_next, refusal_none, if_accepted_lem, if_refused}
use Rattle.marks.specs.Marks.{kept_of, marks_order, AreMarks}
use Rattle.marks.proofs.theorems.MarksCheck.{marks-kept}
use Rattle.pair_check.specs.PairOrder.{IsPair, tables_order}
use Rattle.pair_check.specs.theorems.PairCheck.{tables_kept}
use Rattle.kept_triplets.specs.lemmas.Formed.{sized_of}
use Rattle.one_label.specs.declared.answers.FiveCounts.{FiveCounts}
use Rattle.one_label.specs.declared.checks.Sizes.{Sizes}
use Rattle.counting.specs.Holding.{holding_kept}
use Rattle.one_label.specs.FiveAnswers.{counts_of, five_of, refused_five, holding_order, holding_answer}
use Rattle.one_label.specs.lemmas.HeldCounts.{HeldAre}
use Rattle.counting.specs.declared.Case.TheVariants.{A, B, C, D, E}
use Rattle.one_label.specs.lemmas.LabelCheck.{LabelTold}

module _ (t u : Table) (marks : List ℕ) (x : ℕ) where
  turned : (r : Refusal) → refusal (holding_order t u marks x) ≡ refusal_number r → LabelTold t u marks x (Err r)
  turned r e = record { number = sym e; found = tt }

  pub tables_turned : (r : Refusal) → (refusal (tables_order t u) ≡ refusal_number r) × (refusal_number r ≢ 0)
      → LabelTold t u marks x (Err r)
  unfolding holding_order
  tables_turned r h = turned r (refusal-first (tables_order t u) _ (λ q. h.1 (sym h.0 ∙ q)) ∙ h.0)

  module _ (p : IsPair t u) where
    pub marks_turned : (r : Refusal) → (refusal (marks_order marks (tips t)) ≡ refusal_number r) × (refusal_number r ≢ 0)
        → LabelTold t u marks x (Err r)
    unfolding holding_order
    marks_turned r h = turned r
        (refusal-kept (tables_order t u) _ ((tables_kept t u).1 p)
        ∙ refusal-first (marks_order marks (tips t)) _ (λ q. h.1 (sym h.0 ∙ q))
        ∙ h.0)

    module _ (m : AreMarks marks (tips t)) where
      past : refusal (holding_order t u marks x) ≡ refusal ((10, leb (tips t) x) ∷ [])
      unfolding holding_order
      past = refusal-kept (tables_order t u) _ ((tables_kept t u).1 p)
          ∙ refusal-kept (marks_order marks (tips t)) _ ((marks-kept marks (tips t)).1 m)

      pub label_turned : tips t ≤ x → LabelTold t u marks x (Err TooLarge)
      label_turned l = turned TooLarge (past ∙ refusal_here 10 _ _ (le-leb (tips t) x l))

      pub label_found : (n rows columns some : ℕ) → n ≡ tips t → rows ≡ nodes t - 1 → columns ≡ nodes u - 1 → some ≡ kept_of marks (tips t) → x < n
          → LabelTold t u marks x (Ok (record { tips = n; kept = some; first = rows + 1; second = columns + 1 }))
      label_found n rows columns some en er ec es lx = record {
        number = sym (past ∙ refusal_next 10 _ _ (lt-leb (tips t) x (omega arith)) ∙ refusal_none);
        found = record {
          first_sized = sized_of t n rows (rows + 1) p.first en er refl;
          second_sized = sized_of u n columns (columns + 1) p.second (en ∙ p.same_tips) ec refl;
          marked = subst (AreMarks marks) (sym en) m;
          label_lt = lx;
          kept_are = es;
        };
      }

  -- the number that is passed on from a refused answer
  pub label_passed : (r : Refusal) (number : ℕ) → LabelTold t u marks x (Err r) → number ≡ refusal_number r
      → (refusal (holding_order t u marks x) ≡ number) × (number ≢ 0)
  label_passed r number h = passed_on (sym h.number, λ z. absurd (omega (arith, refusal_numbered r, z)))

  -- .. as `refusal_of` tells it
  pub label_told : (answer : Result Sizes Refusal) (r : Refusal) (number : ℕ) → LabelTold t u marks x answer → answer ≡ Err r
      → MatchResult answer (λ _. number ≡ 0) (λ e. number ≡ refusal_number e)
      → (refusal (holding_order t u marks x) ≡ number) × (number ≢ 0)
  label_told answer r number h e m = label_passed r number (rw e at h) (rw e at (number_is answer number m))

  -- ---- what the call that counts them answers

  pub held_refused : (number : ℕ) → (refusal (holding_order t u marks x) ≡ number) × (number ≢ 0)
      → refused_five number ≡ holding_answer t u marks x
  unfolding holding_answer
  held_refused number h = rw h.0 (sym (if_refused number _ _ h.1))

  pub held_answered : (sizes : Sizes) → LabelTold t u marks x (Ok sizes) → (c : FiveCounts) → HeldAre t u marks x c
      → five_of (counts_of c) ≡ holding_answer t u marks x
  unfolding holding_answer
  held_answered sizes h c q =
      rw (q.held_is A, q.held_is B, q.held_is C, q.held_is D, q.held_is E)
      (sym (if_accepted_lem _ (five_of (holding_kept t u marks x)) _ (sym h.number)))
