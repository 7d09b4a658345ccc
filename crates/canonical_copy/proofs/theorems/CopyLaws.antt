-- What `canonical_copy` accepts, and what it leaves.
-- Assumes nothing.
use Rattle.std.specs.Prelude.{◌≡◌, refl, ◌↔◌, ◌≢◌, List, [], ◌∷◌, ◌++◌, ℕ, ◌+◌, ◌-◌, ◌≤◌, ◌<◌, ltb, length, take, drop}
use Rattle.std.proofs.Common.{sym, ◌∙◌, ap, arith, lt-ltb, le-ltb, length-append, length-drop, take_at, get_or-append-add, get_or-drop}
use Rattle.std.proofs.Math.Decide.{dec_le, ℕ_discrete}
use Rattle.sums.specs.theorems.TestLaws.{not-lt-iff}
use Rattle.tree_check.specs.Table.{Table, word, tips}
use Rattle.tree_check.specs.Refusals.{Rule, refusal}
use Rattle.tree_check.specs.theorems.RefusalLaws.{kept_append, numbered_append, refusal_none, refusal_here, refusal_next, refusal-kept, if_accepted_lem, if_refused}
use Rattle.tree_check.specs.IsTree.{IsTree}
use Rattle.walks.specs.theorems.WalkOrderLaws.{after_tree, tree_accepted}
use Rattle.marks.specs.Marks.{kept_of, marks_order, AreMarks}
use Rattle.marks.proofs.theorems.MarksCheck.{marks_numbered, marks-kept}
use Rattle.counting.specs.Kept.{kept}
use Rattle.counting.specs.SplitCounts.{HaveSameSplits}
use Rattle.counting.proofs.theorems.KeptLaws.{kept-rising}
use Rattle.canonical.specs.IsCopy.{IsCopy}
use Rattle.canonical.specs.CanonicalCopy.{canonical_copy}
use Rattle.canonical.proofs.theorems.Copies.{copy_is_it, copy_only, copies_agree}
use Rattle.canonical_copy.specs.declared.copies.CopyAnswer.{CopyAnswer}
use Rattle.canonical_copy.specs.CopyAnswer.{copy_order, copy_answer, written_over, after_copy, Copied}
use Rattle.canonical_copy.specs.theorems.CopyLaws.{Copyable}

pub copy_check : (marks : List ℕ) (t : Table) (room : ℕ) → (refusal (copy_order marks t room) ≡ 0) ↔ Copyable marks t room
unfolding copy_order
copy_check marks t room =
    let rs : List Rule = (35, ltb (kept_of marks (tips t)) 2) ∷ (36, ltb room (length (canonical_copy marks t))) ∷ [] in
    let a = after_tree t (marks_order marks (tips t) ++ rs)
    (numbered_append (marks_order marks (tips t)) rs (marks_numbered marks (tips t)) (omega arith, (omega arith, tt))) in
    let b = kept_append (marks_order marks (tips t)) rs in
    let m = marks-kept marks (tips t) in
    let two = not-lt-iff (kept_of marks (tips t)) 2 in
    let fit = not-lt-iff room (length (canonical_copy marks t)) in (
      λ e. let r = a.0 e in let k = b.0 r.1 in
          record { tree = r.0; are_marks = m.0 k.0; two = two.0 k.1.0; fits = fit.0 k.1.1.0 },
      λ h. a.1 (h.tree, b.1 (m.1 h.are_marks, (two.1 h.two, (fit.1 h.fits, tt)))),
    )

-- ---- 36

module _ (marks : List ℕ) (t : Table) (room : ℕ) (g : IsTree t) (a : AreMarks marks (tips t)) (two : 2 ≤ kept_of marks (tips t)) where
  last : refusal (copy_order marks t room) ≡ refusal ((36, ltb room (length (canonical_copy marks t))) ∷ [])
  unfolding copy_order
  last =
      tree_accepted t _ g ∙ refusal-kept (marks_order marks (tips t)) _ ((marks-kept marks (tips t)).1 a)
      ∙ refusal_next 35 _ _ (le-ltb (kept_of marks (tips t)) 2 two)

  -- told exactly if every copy is longer than the slice
  pub too_short_iff : (refusal (copy_order marks t room) ≡ 36) ↔ ((c : Table) → IsCopy (kept marks (tips t)) t c → room < length c)
  too_short_iff = (
    λ e. elim (dec_le (length (canonical_copy marks t)) room) [
      | yes l ↦ absurd (omega (arith, e, last ∙ refusal_next 36 _ _ (le-ltb room (length (canonical_copy marks t)) l) ∙ refusal_none))
      | no n ↦ (λ c d. omega (arith, n, ap length (copy_only (kept marks (tips t)) t g (kept-rising marks (tips t)) two c d)))
    ],
    λ h. last ∙ refusal_here 36 _ _ (lt-ltb room (length (canonical_copy marks t))
        (h (canonical_copy marks t) (copy_is_it (kept marks (tips t)) t g (kept-rising marks (tips t)) two))),
  )

-- ---- what is left

over_long : (c old : List ℕ) → length c ≤ length old → length (written_over c old) ≡ length old
unfolding written_over
over_long c old l = omega (arith, length-append c (drop (length c) old), length-drop (length c) old)

over_front : (c old : List ℕ) → take (length c) (written_over c old) ≡ c
unfolding written_over
over_front c old = take_at c (drop (length c) old) (length c) refl

over_rest : (c old : List ℕ) (i : ℕ) → length c ≤ i → word (written_over c old) i ≡ word old i
unfolding written_over
over_rest c old i l =
    let e : length c + (i - length c) ≡ i = omega arith in
    ap (word (c ++ drop (length c) old)) (sym e) ∙ get_or-append-add c (drop (length c) old) (i - length c) 0
    ∙ get_or-drop (length c) old (i - length c) 0 ∙ ap (word old) e

module _ (marks : List ℕ) (t : Table) (old : List ℕ) where
  abbrev number : ℕ
  number = refusal (copy_order marks t (length old))

  abbrev c : List ℕ
  c = canonical_copy marks t

  -- the cells after an accepted call, and after a refused one
  accepted_cells : refusal (copy_order marks t (length old)) ≡ 0 → after_copy marks t old ≡ written_over (canonical_copy marks t) old
  unfolding after_copy
  accepted_cells z = if_accepted_lem number (written_over c old) _ z

  refused_cells : refusal (copy_order marks t (length old)) ≢ 0 → after_copy marks t old ≡ old
  unfolding after_copy
  refused_cells d = if_refused number (written_over c old) old d

  own : Copied marks t old (copy_answer marks t (length old)) (after_copy marks t old)
  unfolding copy_answer
  own = elim (ℕ_discrete (refusal (copy_order marks t (length old))) 0) [
    | yes z ↦ (
        let h = (copy_check marks t (length old)).0 z in
        let w = if_accepted_lem number (length c) 0 z in
        let n = accepted_cells z in
        record {
          number_told = refl;
          copied = λ q. rw (w, n, over_front c old) (copy_is_it (kept marks (tips t)) t h.tree (kept-rising marks (tips t)) h.two);
          as_many = λ q. rw (w, n, over_front c old) refl;
          too_short = too_short_iff marks t (length old);
          stays = λ i l. rw n (over_rest c old i (omega (arith, l, w)));
          refused = λ d. absurd (d z);
          long = rw n (over_long c old h.fits);
        })
    | no d ↦ (
        let w = if_refused number (length c) 0 d in
        let n = refused_cells d in
        record {
          number_told = refl;
          copied = λ q. absurd (d q);
          as_many = λ q. absurd (d q);
          too_short = too_short_iff marks t (length old);
          stays = λ i l. rw n refl;
          refused = λ q. w;
          long = rw n refl;
        })
  ]

  -- what is answered and left by the two definitions
  pub copied_so : (r : CopyAnswer) (new : List ℕ) → r ≡ copy_answer marks t (length old) → new ≡ after_copy marks t old
      → Copied marks t old r new
  copied_so r new e f = rw (e, f) own

-- the words that two accepted calls write under the same marks are the same exactly if the kept splits agree
pub copied_alike : (marks : List ℕ) (t u : Table) (old old' new new' : List ℕ) (r r' : CopyAnswer)
    → Copied marks t old r new → Copied marks u old' r' new' → r.refusal ≡ 0 → r'.refusal ≡ 0
    → (take r.words new ≡ take r'.words new') ↔ HaveSameSplits (kept marks (tips t)) t u
copied_alike marks t u old old' new new' r r' d d' z z' =
    let a = (copy_check marks t (length old)).0 (sym d.number_told ∙ z) in
    let b = (copy_check marks u (length old')).0 (sym d'.number_told ∙ z') in
    let p = copy_only (kept marks (tips t)) t a.tree (kept-rising marks (tips t)) a.two _ (d.copied z) in
    let q = copy_only (kept marks (tips u)) u b.tree (kept-rising marks (tips u)) b.two _ (d'.copied z') in
    let s = copies_agree marks t u a.tree b.tree (sym a.are_marks.long ∙ b.are_marks.long) a.two in
    (λ w. s.0 (sym p ∙ w ∙ q), λ w. p ∙ s.1 w ∙ sym q)
