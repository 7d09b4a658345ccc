-- The number of marks, as code finds it.
-- Assumes nothing.
use Rattle.std.specs.Prelude.{◌≡◌, ◌≢◌, Bool, true, false, List, [], ◌∷◌, ℕ, Ok, Err, ◌≤◌, ◌<◌, eqb, length}
use Rattle.std.proofs.Math.Path.{refl}
use Rattle.std.proofs.Common.{sym, ◌∙◌, ap, arith, eq-eqb, ne_eqb}
use Rattle.std.proofs.Math.Bool.{not}
use Rattle.std.proofs.Math.Dec.{ltb}
use Rattle.std.proofs.Math.Decide.{dec_le}
use Rattle.sums.specs.Counts.{count}
use Rattle.sums.specs.Tests.{some}
use Rattle.sums.specs.theorems.CountLaws.{count_none}
use Rattle.sums.specs.theorems.CountSteps.{count_found}
use Rattle.sums.specs.theorems.TestLaws.{lt_iff}
use Rattle.tree_check.specs.Table.{word}
use Rattle.tree_check.specs.Refusals.{refusal}
use Rattle.tree_check.specs.theorems.RefusalLaws.{refusal_here, refusal_next, refusal_none}
use Rattle.marks.specs.Marks.{kept_of, marks_order, AreMarks, checked_marks}
use Rattle.tree_check.specs.declared.refusals.Refusal.{Refusal}
use Rattle.tree_check.specs.declared.refusals.Refusal.TheVariants.{Marks}
use Rattle.tree_check.specs.Numbers.{refusal_number, refusal_named}
use Rattle.tree_check.specs.theorems.NumberLaws.{answer_ok, answer_err, answered_ok, answered_err}
use Rattle.marks.proofs.theorems.MarksCheck.{marks_check}

module _ (marks : List ℕ) (n : ℕ) where
  refused_by : refusal (marks_order marks n) ≡ 32 → Err Marks ≡ checked_marks marks n
  unfolding checked_marks
  refused_by e = answer_err _ Marks _ e

  pub marks_short : length marks ≢ n → Err Marks ≡ checked_marks marks n
  unfolding marks_order
  marks_short d = refused_by (refusal_here 32 _ _ (ap not (ne_eqb (length marks) n d)))

  module _ (e : length marks ≡ n) (k : ℕ) (c : k ≡ count (length marks) (λ x. ltb 1 (word marks x))) where
    pub marks_wrong : k ≢ 0 → Err Marks ≡ checked_marks marks n
    unfolding marks_order
    marks_wrong d =
        refused_by (refusal_next 32 _ _ (ap not (eq-eqb (length marks) n e))
        ∙ refusal_here 32 _ _ (sym (count_found n (λ x. ltb 1 (word marks x)) k (rw e at c) d)))

    pub marks_right : k ≡ 0 → (j : ℕ) → j ≡ kept_of marks (length marks) → Ok j ≡ checked_marks marks n
    unfolding checked_marks
    marks_right z j q = answer_ok _ _ _ accepted (q ∙ ap (λ (m : ℕ). kept_of marks m) e)
      where
        low : (x : ℕ) → (1 < word marks x → ⊥) → word marks x ≤ 1
        low x f = elim (dec_le (word marks x) 1) [ yes l ↦ l | no d ↦ absurd (f (omega (arith, d))) ]

        accepted : refusal (marks_order marks n) ≡ 0
        accepted = (marks_check marks n).1 (record {
          long = e;
          low = λ x l. low x (λ m. (count_none (length marks) (λ y. ltb 1 (word marks y))).0 (sym c ∙ z) x (rw e l) ((lt_iff 1 (word marks x)).1 m));
        })

-- the marks' order tells 32 and nothing else
only_32 : (marks : List ℕ) (n : ℕ) → refusal (marks_order marks n) ≢ 0 → refusal (marks_order marks n) ≡ 32
only_32 marks n = unfold marks_order in go (not (eqb (length marks) n)) (some n (λ x. ltb 1 (word marks x)))
  where
    go : (b c : Bool) → refusal ((32, b) ∷ (32, c) ∷ []) ≢ 0 → refusal ((32, b) ∷ (32, c) ∷ []) ≡ 32
    go true c d = refusal_here 32 true _ refl
    go false true d = refusal_next 32 false _ refl ∙ refusal_here 32 true _ refl
    go false false d = absurd (d (refusal_next 32 false _ refl ∙ refusal_next 32 false _ refl ∙ refusal_none))

-- what the check of the marks says: they are marks, and so many labels are kept ..
pub marks_say : (marks : List ℕ) (n x kept : ℕ) → x ≡ n → Ok kept ≡ checked_marks marks x
    → AreMarks marks n × (kept ≡ kept_of marks n)
unfolding checked_marks
marks_say marks n x kept s e =
    let h = answered_ok _ _ _ (rw s at e) in ((marks_check marks n).0 h.0, h.1)

-- .. or their order tells the refusal's number
pub marks_refused_by : (marks : List ℕ) (n x : ℕ) (r : Refusal) → x ≡ n → Err r ≡ checked_marks marks x
    → (refusal (marks_order marks n) ≡ refusal_number r) × (refusal_number r ≢ 0)
unfolding checked_marks
marks_refused_by marks n x r s e =
    answered_err _ r _ (λ d. rw (only_32 marks n d) named) (rw s at e)
  where
    named : refusal_number (refusal_named 32) ≡ 32
    named = unfold refusal_named in refl
