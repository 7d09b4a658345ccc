-- The sequence theorem: after a quartet table and any number of calls of `change_mark`, each accepted call's counts are those of
-- a fresh quartet table under the marks that it leaves, and 34 is never told.
-- Assumes nothing.
use Rattle.std.specs.Prelude.{◌≡◌, refl, ◌⊎◌, List, [], ◌∷◌, ℕ, set}
use Rattle.std.proofs.Common.{sym, ◌∙◌, ap, inl, inr, arith}
use Rattle.std.proofs.Math.Decide.{ℕ_discrete}
use Rattle.sums.specs.Bits.{bit}
use Rattle.tree_check.specs.Table.{Table, tips}
use Rattle.tree_check.specs.Refusals.{refusal}
use Rattle.tree_check.specs.theorems.RefusalLaws.{if_accepted_lem, if_refused}
use Rattle.pair_check.specs.PairOrder.{IsPair, PairWithCells, MarkedPair}
use Rattle.pair_check.specs.theorems.PairCheck.{pair_check}
use Rattle.counting.specs.Kept.{kept}
use Rattle.counting.specs.declared.Case.{Case}
use Rattle.counting.specs.declared.Case.TheVariants.{A, B, C, D, E}
use Rattle.counting.specs.Cases.{quartets}
use Rattle.quartets.specs.QuartetAnswer.{cases_over, quartet_answer}
use Rattle.quartets.proofs.theorems.DemandThree.{demand_three, accepted}
use Rattle.one_label.specs.declared.answers.FiveCounts.{FiveCounts}
use Rattle.one_label.specs.FiveAnswers.{Counts, counts_of}
use Rattle.one_label.specs.Changes.{restores, change_order, marks_after}
use Rattle.one_label.specs.theorems.ChangeLaws.{Fresh, answer_counts}
use Rattle.one_label.proofs.theorems.ChangeLaws.{answer_number, answer_counts_lem, change_check, fresh_changed, fresh_number as change-number}
use Rattle.mark_changes.specs.theorems.Sequences.{table_counts, LabelWish, CallerState, answer_to, marks_left, after_wish, after_wishes, CountedAfresh}

-- five counts that are those of each case
five_of_lem : (c : FiveCounts) (r : Counts) → ((k : Case) → counts_of c k ≡ r k) → c ≡ record { a = r A; b = r B; c = r C; d = r D; e = r E }
five_of_lem c r h = rw (sym (h A), sym (h B), sym (h C), sym (h D), sym (h E)) refl

-- ---- one call

abbrev Right : Table → Table → CallerState → Type 0
Right t u s = Fresh t u s.marks (counts_of s.counts)

module _ (t u : Table) (p : IsPair t u) (s : CallerState) (f : Right t u s) (w : LabelWish) where
  abbrev number : ℕ
  number = refusal (change_order t u s.marks s.counts w.label w.wish)

  told : (answer_to t u s w).refusal ≡ number
  told = answer_number t u s.marks s.counts w.label w.wish

  -- the marks and the counts of an accepted call are those of a fresh count
  accepted_right : number ≡ 0 → Fresh t u (marks_left t u s w) (counts_of (answer_counts (answer_to t u s w)))
  unfolding marks_after
  accepted_right e =
      let a = (change_check t u s.marks s.counts w.label w.wish).0 e in
      let g = fresh_changed t u p s.marks s.counts f w.label w.wish a.label_lt a.other in
      rw (if_accepted_lem number (set s.marks w.label (bit (restores w.wish))) s.marks e) (record {
        marked = g.marked;
        counted = λ k. answer_counts_lem t u s.marks s.counts w.label w.wish e k ∙ g.counted k;
      })

  right_after : Right t u (after_wish t u s w)
  unfolding after_wish
  right_after = elim (ℕ_discrete number 0) [
    | yes e ↦ rw (if_accepted_lem (answer_to t u s w).refusal (answer_counts (answer_to t u s w)) s.counts (told ∙ e)) (accepted_right e)
    | no d ↦ rw (if_refused (answer_to t u s w).refusal (answer_counts (answer_to t u s w)) s.counts (λ q. d (sym told ∙ q)))
        (unfold marks_after in rw (if_refused number (set s.marks w.label (bit (restores w.wish))) s.marks d) f)
  ]

-- ---- any number of calls

right_always : (t u : Table) → IsPair t u → (s : CallerState) → Right t u s → (ws : List LabelWish) → Right t u (after_wishes t u s ws)
unfolding after_wishes
right_always t u p s f [] = f
right_always t u p s f (w ∷ ws) = right_always t u p (after_wish t u s w) (right_after t u p s f w) ws

module _ (t u : Table) (cells : ℕ) (p : PairWithCells t u cells) where
  table_is : (marks : List ℕ) (c : FiveCounts) → Fresh t u marks (counts_of c) → c ≡ table_counts (quartet_answer t u marks cells)
  table_is marks c f =
      five_of_lem c (quartets (kept marks (tips t)) t u) f.counted
      ∙ ap table_counts (sym (accepted t u marks cells (record { with_cells = p; marked = f.marked })))

  holds : (s : CallerState) → Right t u s → CountedAfresh t u cells s
  holds s f = record {
    fresh_number = (demand_three t u s.marks cells).number
        ∙ (pair_check t u s.marks cells).1 (record { with_cells = p; marked = f.marked });
    fresh_counts = table_is s.marks s.counts f;
    next_number = next;
    never_34 = λ w e. elim (next w) [
      | inl z ↦ omega (arith, e, z)
      | inr r ↦ elim r [ inl z ↦ omega (arith, e, z) | inr z ↦ omega (arith, e, z) ]
    ];
    next_counts = λ w e. table_is _ _ (accepted_right t u p.pair s f w (sym (told t u p.pair s f w) ∙ e));
  }
    where
      next : (w : LabelWish) → ((answer_to t u s w).refusal ≡ 0) ⊎ (((answer_to t u s w).refusal ≡ 10) ⊎ ((answer_to t u s w).refusal ≡ 33))
      next w =
          let q = told t u p.pair s f w in
          elim (change-number t u p.pair s.marks s.counts f w.label w.wish) [
            | inl z ↦ inl (q ∙ z)
            | inr r ↦ elim r [ inl z ↦ inr (inl (q ∙ z)) | inr z ↦ inr (inr (q ∙ z)) ]
          ]

-- start from an accepted quartet table, with its marks and its counts
pub sequence_theorem : (t u : Table) (marks : List ℕ) (cells : ℕ) → (quartet_answer t u marks cells).refusal ≡ 0 → (ws : List LabelWish)
    → CountedAfresh t u cells (after_wishes t u (record { marks = marks; counts = table_counts (quartet_answer t u marks cells) }) ws)
sequence_theorem t u marks cells e ws =
    let m = (pair_check t u marks cells).0 (sym (demand_three t u marks cells).number ∙ e) in
    holds t u cells m.with_cells _ (right_always t u m.with_cells.pair _ (begin m) ws)
  where
    by-case : (c : Case) → counts_of (table_counts (cases_over (kept marks (tips t)) t u)) c ≡ quartets (kept marks (tips t)) t u c
    by-case A = refl
    by-case B = refl
    by-case C = refl
    by-case D = refl
    by-case E = refl

    begin : MarkedPair t u marks cells → Right t u (record { marks = marks; counts = table_counts (quartet_answer t u marks cells) })
    begin m = record {
      marked = m.marked;
      counted = λ k. ap (λ (c : FiveCounts). counts_of c k) (ap table_counts (accepted t u marks cells m)) ∙ by-case k;
    }
