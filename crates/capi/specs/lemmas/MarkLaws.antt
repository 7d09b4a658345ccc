-- A mark for a wish: the order of the export, and the outcomes of its call.
-- Assumes nothing.
use Rattle.std.specs.Prelude.{◌≡◌, ◌≢◌, ℕ, zero, suc, ◌≤◌, ◌<◌, set}
use Rattle.std.proofs.Math.Path.{refl, sym}
use Rattle.std.proofs.Common.{◌∙◌, arith, lt-ltb, le-ltb}
use Rattle.std.proofs.Math.Bool.{true}
use mathlib.Core.List.{List, [], ◌∷◌, ◌++◌}
use Rattle.std.proofs.Math.Decide.{ℕ_discrete}
use Rattle.sums.specs.Bits.{bit}
use Rattle.tree_check.specs.Table.{Table}
use Rattle.tree_check.specs.Refusals.{Rule, refusal}
use Rattle.tree_check.specs.theorems.RefusalLaws.{accepted, refusal-first, refusal-kept, refusal_here, refusal_next, if_refused}
use Rattle.pair_check.specs.PairOrder.{tables_order}
use Rattle.pair_check.specs.theorems.PairCheck.{tables_numbered}
use Rattle.one_label.specs.declared.answers.FiveCounts.{FiveCounts}
use Rattle.one_label.specs.declared.answers.Wish.TheVariants.{Strike, Restore}
use Rattle.one_label.specs.FiveAnswers.{five_of, refused_five}
use Rattle.one_label.specs.Changes.{restores, change_order, new_counts, change_answer, marks_after}
use Rattle.capi.specs.PlainLabels.{wish_of, mark_order, mark_answer, marks_after_mark}

pub wish_strike : (mark : ℕ) → mark ≡ 0 → Strike ≡ wish_of mark
wish_strike mark e = rw e (unfold wish_of in refl)

pub wish_restore : (mark : ℕ) → mark ≢ 0 → Restore ≡ wish_of mark
unfolding wish_of
wish_restore zero d = absurd (d refl)
wish_restore (suc k) d = refl

of_mark : (k : ℕ) → k ≤ 1 → bit (restores (wish_of k)) ≡ k
unfolding wish_of bit
of_mark zero m = refl
of_mark (suc zero) m = refl
of_mark (suc (suc k)) m = absurd (omega arith)

-- ---- rules after those of the tables

-- the tables' number, if they have one
pub tables_first : (t u : Table) (rs : List Rule) (k : ℕ) → k ≡ refusal (tables_order t u) → k ≢ 0 → k ≡ refusal (tables_order t u ++ rs)
tables_first t u rs k e d = e ∙ sym (refusal-first (tables_order t u) rs (λ z. d (e ∙ z)))

-- the number of what follows, if they have none
pub tables_past : (t u : Table) (rs : List Rule) → refusal (tables_order t u) ≡ 0 → refusal (tables_order t u ++ rs) ≡ refusal rs
tables_past t u rs z = refusal-kept (tables_order t u) rs ((accepted (tables_order t u) (tables_numbered t u)).0 z)

-- what follows may be exchanged for rules with the same number
tables_then : (t u : Table) (rs ss : List Rule) → refusal rs ≡ refusal ss → refusal (tables_order t u ++ rs) ≡ refusal (tables_order t u ++ ss)
tables_then t u rs ss e = elim (ℕ_discrete (refusal (tables_order t u)) 0) [
  | yes z ↦ tables_past t u rs z ∙ e ∙ sym (tables_past t u ss z)
  | no d ↦ refusal-first (tables_order t u) rs d ∙ sym (refusal-first (tables_order t u) ss d)
]

pub tables_or_32 : (t u : Table) → refusal (tables_order t u) ≡ 0 → 32 ≡ refusal (tables_order t u ++ ((32, true) ∷ []))
tables_or_32 t u z = sym (tables_past t u _ z ∙ refusal_here 32 true [] refl)

some_number : (t u : Table) → refusal (tables_order t u ++ ((32, true) ∷ [])) ≢ 0
some_number t u e = elim (ℕ_discrete (refusal (tables_order t u)) 0) [
  | yes z ↦ omega (arith, tables_or_32 t u z, e)
  | no d ↦ d (sym (refusal-first (tables_order t u) _ d) ∙ e)
]

-- ---- the outcomes

module _ (t u : Table) (marks : List ℕ) (counts : FiveCounts) (x mark : ℕ) where
  high_number : 1 < mark → refusal (mark_order t u marks counts x mark) ≡ refusal (tables_order t u ++ ((32, true) ∷ []))
  unfolding mark_order
  high_number l = tables_then t u _ ((32, true) ∷ []) (refusal_here 32 _ _ (lt-ltb 1 mark l) ∙ sym (refusal_here 32 true [] refl))

  low_number : mark ≤ 1 → refusal (mark_order t u marks counts x mark) ≡ refusal (change_order t u marks counts x (wish_of mark))
  unfolding mark_order change_order
  low_number l = tables_then t u _ _ (refusal_next 32 _ _ (le-ltb 1 mark l))

  -- a mark above 1
  pub mark_refused : (k : ℕ) → 1 < mark → k ≡ refusal (tables_order t u ++ ((32, true) ∷ []))
      → (refused_five k ≡ mark_answer t u marks counts x mark) × (marks ≡ marks_after_mark t u marks counts x mark)
  unfolding mark_answer marks_after_mark
  mark_refused k l e =
      let d : k ≢ 0 = λ z. some_number t u (sym e ∙ z) in
      let number : refusal (mark_order t u marks counts x mark) ≡ k = high_number l ∙ sym e in (
        rw number (sym (if_refused k (five_of (new_counts t u marks counts x (wish_of mark))) (refused_five k) d)),
        rw number (sym (if_refused k (set marks x mark) marks d)),
      )

  -- 0 or 1: the call with the wish
  pub mark_wished : mark ≤ 1
      → (change_answer t u marks counts x (wish_of mark) ≡ mark_answer t u marks counts x mark)
      × (marks_after t u marks counts x (wish_of mark) ≡ marks_after_mark t u marks counts x mark)
  unfolding change_answer mark_answer marks_after marks_after_mark
  mark_wished l = (rw (low_number l) refl, rw (low_number l, of_mark mark l) refl)
