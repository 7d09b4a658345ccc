-- What `canonical_copy` answers, as its code finds it.
-- Assumes nothing.
use Rattle.std.specs.Prelude.{◌≡◌, ◌≢◌, List, [], ◌∷◌, ℕ, ◌%◌, ◌≤◌, ◌<◌, ltb}
use Rattle.std.proofs.Math.Path.{sym}
use Rattle.std.proofs.Common.{◌∙◌, arith, lt-ltb, le-ltb}
use Rattle.std.proofs.Math.Decide.{dec_le}
use Rattle.std.proofs.Math.ListN.{length}
use Rattle.tree_check.specs.Table.{Table, tips}
use Rattle.tree_check.specs.Refusals.{refusal}
use Rattle.tree_check.specs.theorems.RefusalLaws.{refusal_none, refusal_here, refusal_next, refusal-first, refusal-kept, if_accepted_lem, if_refused}
use Rattle.tree_check.specs.IsTree.{IsTree}
use Rattle.tree_check.specs.TreeOrder.{tree_order}
use Rattle.walks.specs.theorems.WalkOrderLaws.{tree_refused, tree_accepted}
use Rattle.marks.specs.Marks.{kept_of, marks_order, AreMarks}
use Rattle.marks.proofs.theorems.MarksCheck.{marks-kept}
use Rattle.counting.specs.Kept.{kept}
use Rattle.counting.proofs.theorems.KeptLaws.{kept-rising}
use Rattle.canonical.specs.CanonicalCopy.{canonical_copy}
use Rattle.canonical.proofs.theorems.Copies.{copy_is_original}
use Rattle.canonical_copy.specs.declared.copies.CopyAnswer.{CopyAnswer}
use Rattle.canonical_copy.specs.CopyAnswer.{copy_order, copy_answer, written_over, after_copy}
use Rattle.canonical_copy.proofs.theorems.CopyLaws.{copied_so}
use Rattle.canonical_copy.specs.lemmas.RootedCopy.{CopiedInto}
use Rattle.canonical_copy.specs.lemmas.Outcomes.{CopyAnswered}

module _ (marks : List ℕ) (t : Table) (old : List ℕ) where
  abbrev number : ℕ
  number = refusal (copy_order marks t (length old))

  abbrev c : List ℕ
  c = canonical_copy marks t

  answered : (r : CopyAnswer) (new : List ℕ) → r ≡ copy_answer marks t (length old) → new ≡ after_copy marks t old → CopyAnswered marks t old r new
  answered r new e f = (e, f, copied_so marks t old r new e f)

  refused : (k : ℕ) → refusal (copy_order marks t (length old)) ≡ k → k ≢ 0 → CopyAnswered marks t old (record { refusal = k; words = 0 }) old
  unfolding copy_answer after_copy
  refused k e d =
      let q : number ≢ 0 = λ z. d (sym e ∙ z) in
      answered (record { refusal = k; words = 0 }) old
      (λ i. record { refusal = sym e i; words = sym (if_refused number (length c) 0 q) i })
      (sym (if_refused number (written_over c old) old q))

  pub tree_away : (k : ℕ) → refusal (tree_order t) ≡ k → k ≢ 0 → CopyAnswered marks t old (record { refusal = k; words = 0 }) old
  tree_away k e d = refused k (unfold copy_order in tree_refused t _ k e d) d

  module _ (g : IsTree t) where
    pub marks_away : (k : ℕ) → k ≡ refusal (marks_order marks (tips t)) → k ≢ 0 → CopyAnswered marks t old (record { refusal = k; words = 0 }) old
    marks_away k e d = refused k told d
      where
        told : refusal (copy_order marks t (length old)) ≡ k
        told = unfold copy_order in tree_accepted t _ g ∙ refusal-first (marks_order marks (tips t)) _ (λ z. d (e ∙ z)) ∙ sym e

    module _ (a : AreMarks marks (tips t)) where
      then : number ≡ refusal ((35, ltb (kept_of marks (tips t)) 2) ∷ (36, ltb (length old) (length c)) ∷ [])
      unfolding copy_order
      then = tree_accepted t _ g ∙ refusal-kept (marks_order marks (tips t)) _ ((marks-kept marks (tips t)).1 a)

      pub few_away : (k : ℕ) → k ≡ kept_of marks (tips t) → k < 2 → CopyAnswered marks t old (record { refusal = 35; words = 0 }) old
      few_away k e l = refused 35 (then ∙ refusal_here 35 _ _ (lt-ltb (kept_of marks (tips t)) 2 (omega (arith, e, l)))) (omega arith)

      module _ (two : 2 ≤ kept_of marks (tips t)) where
        next : number ≡ refusal ((36, ltb (length old) (length c)) ∷ [])
        next = then ∙ refusal_next 35 _ _ (le-ltb (kept_of marks (tips t)) 2 two)

        some_words : (2 ≤ length c) × (length c < 65536)
        some_words =
            let o = copy_is_original (kept marks (tips t)) t g (kept-rising marks (tips t)) two in
            omega (arith, o.tree.words, o.tree.tips_range, o.nodes_few)

        -- no word is told: the slice is too short
        pub short_away : (w : ℕ) (new : List ℕ) → CopiedInto c old new w → w ≡ 0 → CopyAnswered marks t old (record { refusal = 36; words = 0 }) new
        short_away w new s z = elim (dec_le (length c) (length old)) [
          | yes l ↦ absurd (omega (arith, (s.long l).0, z, some_words))
          | no n ↦ rw (s.short (omega (arith, n))).1
              (refused 36 (next ∙ refusal_here 36 _ _ (lt-ltb (length old) (length c) (omega (arith, n)))) (omega arith))
        ]

        -- some are: the copy is written
        pub accepted : (w : ℕ) (new : List ℕ) → CopiedInto c old new w → w ≢ 0 → (x : ℕ) → x ≡ w % 65536
            → CopyAnswered marks t old (record { refusal = 0; words = x }) new
        unfolding copy_answer after_copy
        accepted w new s d x e = elim (dec_le (length c) (length old)) [
          | no n ↦ absurd (d (s.short (omega (arith, n))).0)
          | yes l ↦ (
              let z : number ≡ 0 = next ∙ refusal_next 36 _ _ (le-ltb (length old) (length c) l) ∙ refusal_none in
              let f : x ≡ length c = omega (arith, e, (s.long l).0, some_words) in
              answered (record { refusal = 0; words = x }) new
              (λ i. record { refusal = sym z i; words = (f ∙ sym (if_accepted_lem number (length c) 0 z)) i })
              ((s.long l).1 ∙ sym (if_accepted_lem number (written_over c old) old z)))
        ]
