-- The marks with two exchanged, and the sets that hold a label from the re-rooted tables.
-- Assumes nothing.
use Rattle.std.specs.Prelude.{◌≡◌, List, ◌++◌, ℕ, ◌≤◌, ◌<◌, length, set, replicate}
use Rattle.std.proofs.Common.{sym, ◌∙◌, length-append, length-drop, length-set, get_or-set_same, get_or-set_other, get_or-take, length-take-le}
use Rattle.std.proofs.Math.Path.{ap}
use Rattle.std.proofs.Math.Decide.{ℕ_discrete}
use native.Mathlib.Omega.{arith}
use Rattle.std.proofs.Math.ListN.{take, drop, get_or-append}
use Rattle.std.proofs.lemmas.List.{length-replicate}
use Rattle.sums.specs.Counts.{count}
use Rattle.sums.specs.Swaps.{swapped}
use Rattle.sums.specs.theorems.SwapLaws.{swapped-first, swapped_second, swapped_other, swapped-lt}
use Rattle.sums.specs.theorems.ThreesLaws.{threes_mono, threes_of_255}
use Rattle.table_words.specs.Sizes.{tips_most}
use Rattle.tree_check.specs.Table.{Table, word, tips}
use Rattle.marks.specs.Marks.{AreMarks}
use Rattle.marks.proofs.theorems.MarksCheck.{marks_check}
use Rattle.pair_check.specs.PairOrder.{IsPair}
use Rattle.counting.specs.declared.Case.{Case}
use Rattle.counting.specs.declared.Case.TheVariants.{A, B, C, D, E}
use Rattle.rerooting.specs.Rerooted.{rerooted}
use Rattle.rerooting.specs.theorems.RerootedParts.{same_tips}
use Rattle.rerooting.specs.theorems.RerootedTree.{rerooted_tree}
use Rattle.triplets.specs.declared.tables.TripletTable.{TripletTable}
use Rattle.counting.specs.Kept.{is_other, others}
use Rattle.counting.specs.Triplets.{triplets_over}
use Rattle.counting.proofs.theorems.KeptTripletSums.{total}
use Rattle.kept_triplets.specs.lemmas.AllRows.{others_few}
use Rattle.kept_triplets.specs.KeptAnswer.{kept_counts, kept_answer}
use Rattle.tree_check.specs.lemmas.Sized.{Sized}
use Rattle.kept_triplets.specs.lemmas.Formed.{counted}
use Rattle.counting.specs.Holding.{holding_kept}
use Rattle.one_label.specs.Changes.{total_of}
use Rattle.one_label.specs.FiveAnswers.{counts_of}
use Rattle.one_label.proofs.theorems.HoldingIsTriplets.{holding_is_triplets}
use Rattle.one_label.specs.lemmas.HeldCounts.{HeldAre, MarksCopied, MarksExchanged, five_counts}

-- the marks in front of the zeros that are left
pub copied_all : (marks out : List ℕ) → out ≡ marks → length marks ≤ tips_most
    → MarksCopied marks (length marks) (out ++ drop (length marks) (replicate tips_most 0))
copied_all marks out e l = rw e (record {
  long = length-append marks (drop (length marks) (replicate tips_most 0))
      ∙ omega (arith, length-drop (length marks) (replicate {A = ℕ} tips_most 0), length-replicate {A = ℕ} tips_most 0);
  mark = λ y m. get_or-append marks (drop (length marks) (replicate tips_most 0)) 0 y m;
})

pub marks-exchanged : (marks : List ℕ) (x : ℕ) (out : List ℕ) → x < tips_most → MarksCopied marks (length marks) out
    → MarksExchanged marks x (set (set out 0 (word marks x)) x (word marks 0))
marks-exchanged marks x out lx h = record {
  long = length-set (set out 0 (word marks x)) x (word marks 0) ∙ length-set out 0 (word marks x) ∙ h.long;
  mark = λ y m. elim (ℕ_discrete y x) [
    | yes d ↦ rw d (get_or-set_same (set out 0 (word marks x)) x (word marks 0) 0 (omega (arith, h.long, length-set out 0 (word marks x)))
        ∙ sym (ap (word marks) (swapped_second 0 x)))
    | no d ↦ get_or-set_other (set out 0 (word marks x)) x y (word marks 0) 0 d ∙ elim (ℕ_discrete y 0) [
      | yes z ↦ rw z (get_or-set_same out 0 (word marks x) 0 (omega (arith, h.long)) ∙ sym (ap (word marks) (swapped-first 0 x)))
      | no z ↦ get_or-set_other out 0 y (word marks x) 0 z ∙ h.mark y m ∙ sym (ap (word marks) (swapped_other 0 x y z d))
    ]
  ];
}

module _ (t u : Table) (n m k x : ℕ) (marks out : List ℕ) (h : Sized t n m) (h' : Sized u n k) (am : AreMarks marks n) (lx : x < n)
    (ex : MarksExchanged marks x out) where
  same : tips t ≡ tips u
  same = omega (arith, h.tips_are, h'.tips_are)

  pair : IsPair (rerooted t x) (rerooted u x)
  pair = record {
    first = rerooted_tree t h.tree x (omega (arith, h.tips_are));
    second = rerooted_tree u h'.tree x (omega (arith, h'.tips_are));
    same_tips = same_tips t x ∙ same ∙ sym (same_tips u x);
  }

  front : (y : ℕ) → y < n → word (take n out) y ≡ word marks (swapped 0 x y)
  front y l = get_or-take n out y 0 l ∙ ex.mark y (omega (arith, am.long))

  are_marks : AreMarks (take n out) (tips (rerooted t x))
  are_marks = rw (same_tips t x, ← h.tips_are) (record {
    long = length-take-le n out (omega (arith, ex.long, h.tips_are, h.tree.tips_range.1));
    low = λ y l. rw (front y l) (am.low (swapped 0 x y) (swapped-lt 0 x y n (omega (arith, lx)) lx l));
  })

  held : (c : Case) → triplets_over (others (take n out) 0 (tips (rerooted t x))) (rerooted t x) (rerooted u x) c ≡ holding_kept t u marks x c
  held c =
      ap (λ (j : ℕ). triplets_over (others (take n out) 0 j) (rerooted t x) (rerooted u x) c) (same_tips t x)
      ∙ sym (holding_is_triplets t u h.tree h'.tree same x (omega (arith, h.tips_are)) c marks (take n out)
      (λ y l. front y (omega (arith, h.tips_are))))

  total_few : (r : TripletTable) → r ≡ kept_counts (rerooted t x) (rerooted u x) (take n out) → total_of (counts_of (five_counts r)) ≤ 2731135
  unfolding total_of
  total_few r q =
      let l = take n out in
      let g = pair.first in
      omega (
        arith,
        ap (λ (z : TripletTable). z.a) q,
        ap (λ (z : TripletTable). z.b) q,
        ap (λ (z : TripletTable). z.c) q,
        ap (λ (z : TripletTable). z.d) q,
        ap (λ (z : TripletTable). z.e) q,
        total l (rerooted t x) (rerooted u x) g pair.second pair.same_tips,
        threes_mono (count (tips (rerooted t x)) (is_other l 0)) 255
            (let r = g.tips_range in omega (arith, others_few l (tips (rerooted t x)) (omega arith))),
        threes_of_255,
      )

  pub held_are : (r : TripletTable) → r ≡ kept_answer (rerooted t x) (rerooted u x) (take n out) → HeldAre t u marks x (five_counts r)
  held_are r e =
      let q = e ∙ sym (counted (rerooted t x) (rerooted u x) (take n out) pair ((marks_check (take n out) (tips (rerooted t x))).1 are_marks)) in
      record { held_is = by-case q; few = total_few r q }
    where
      by-case : r ≡ kept_counts (rerooted t x) (rerooted u x) (take n out) → (k : Case) → counts_of (five_counts r) k ≡ holding_kept t u marks x k
      by-case q A = ap (λ (z : TripletTable). z.a) q ∙ held A
      by-case q B = ap (λ (z : TripletTable). z.b) q ∙ held B
      by-case q C = ap (λ (z : TripletTable). z.c) q ∙ held C
      by-case q D = ap (λ (z : TripletTable). z.d) q ∙ held D
      by-case q E = ap (λ (z : TripletTable). z.e) q ∙ held E
