-- The call that strikes or restores a label: what it accepts, what it changes, and that a fresh count stays fresh.
-- Assumes nothing.
use Rattle.std.specs.Prelude.{◌≡◌, not, ◌&&◌, ◌⊎◌, ◌≢◌, ◌↔◌, List, ◌++◌, eqb, leb, length, set}
use Rattle.std.proofs.Math.Path.{refl, sym, ap, subst}
use Rattle.std.proofs.Common.{◌∙◌, length-set, get_or-set_same, get_or-set_other}
use Rattle.std.proofs.Math.Bool.{Bool, true, false}
use Rattle.std.specs.Bool.{beq}
use Rattle.std.proofs.Math.Logic.{inl, inr}
use Prim.Native.Nat.{ℕ, zero, suc, ◌+◌, ◌≤◌, ◌<◌}
use Rattle.std.proofs.Math.Decide.{ℕ_discrete, dec_le}
use native.Mathlib.Omega.{arith}
use Rattle.std.proofs.Math.Dec.{T, ltb}
use Rattle.sums.specs.Bits.{bit}
use Rattle.sums.specs.theorems.BitLaws.{bit_le, T_true, T_false}
use Rattle.sums.specs.theorems.TestLaws.{or-iff, eq_iff, lt_iff, not-le-iff, not-not, beq_iff}
use Rattle.sums.specs.Fours.{fours}
use Rattle.tree_check.specs.Table.{Table, word, tips}
use Rattle.tree_check.specs.Refusals.{refusal, if_accepted}
use Rattle.tree_check.specs.theorems.RefusalLaws.{Kept, Numbered, accepted, kept_append, numbered_append, if_accepted_lem}
use Rattle.tree_check.specs.theorems.RefusalLaws.{refusal-kept, refusal_here, refusal_next}
use Rattle.marks.specs.Marks.{is_kept, kept_of, marks_order, AreMarks}
use Rattle.marks.proofs.theorems.MarksCheck.{marks_numbered, marks-kept}
use Rattle.pair_check.specs.PairOrder.{tables_order, IsPair}
use Rattle.pair_check.specs.theorems.PairCheck.{tables_numbered, tables_kept}
use Rattle.counting.specs.Kept.{kept}
use Rattle.counting.specs.declared.Case.{Case}
use Rattle.counting.specs.declared.Case.TheVariants.{A, B, C, D, E}
use Rattle.counting.specs.Cases.{case_number, quartets}
use Rattle.counting.proofs.theorems.KeptLaws.{kept-rising}
use Rattle.counting.proofs.theorems.LabelLaws.{rising_of}
use Rattle.counting.proofs.theorems.TreeShape.{shape_of}
use Rattle.counting.proofs.theorems.CasesInShapes.{quartets_in_shapes}
use Rattle.shapes.proofs.theorems.Topologies.{cases_in}
use Rattle.counting.proofs.theorems.FiveFormulas.{formulas_in_shapes}
use Rattle.counting.specs.Holding.{holding_kept}
use Rattle.one_label.specs.declared.answers.FiveAnswer.{FiveAnswer}
use Rattle.one_label.specs.declared.answers.FiveCounts.{FiveCounts}
use Rattle.one_label.specs.declared.answers.Wish.{Wish}
use Rattle.one_label.specs.declared.answers.Wish.TheVariants.{Strike, Restore}
use Rattle.one_label.specs.FiveAnswers.{Counts, counts_of, five_of, refused_five}
use Rattle.one_label.specs.Changes.{restores, total_of, overdrawn, wish_order, change_order, new_count, new_counts, change_answer}
use Rattle.counting.proofs.theorems.OneLabelLaw.{one-label_law, holding-alike}
use Rattle.one_label.specs.theorems.ChangeLaws.{Fresh, Granted, answer_counts}

-- ---- what is accepted

and-not : (b c : Bool) → T (not (not b && c)) ↔ (b ≡ false → T c → ⊥)
and-not true c = (λ y e z. subst T e tt, λ h. tt)
and-not false true = (λ y e z. y, λ h. h refl tt)
and-not false false = (λ y e z. z, λ h. tt)

not_T : (b : Bool) → T (not b) → T b → ⊥
not_T true y z = y
not_T false y z = z

T-not_of : (b : Bool) → (T b → ⊥) → T (not b)
T-not_of true h = h tt
T-not_of false h = tt

change_numbered : (t u : Table) (marks : List ℕ) (counts : FiveCounts) (x : ℕ) (wish : Wish) → Numbered (change_order t u marks counts x wish)
unfolding change_order wish_order
change_numbered t u marks counts x wish = numbered_append (tables_order t u) _ (tables_numbered t u)
    (numbered_append (marks_order marks (tips t)) _ (marks_numbered marks (tips t))
    (omega arith, (omega arith, (omega arith, (omega arith, tt)))))

wish_kept : (t u : Table) (marks : List ℕ) (counts : FiveCounts) (x : ℕ) (wish : Wish) → Kept (wish_order t u marks counts x wish)
    ↔ ((x < tips t) × (is_kept marks x ≢ restores wish)
    × (total_of (counts_of counts) ≡ fours (kept_of marks (tips t)))
    × (restores wish ≡ false → T (overdrawn (counts_of counts) (holding_kept t u marks x)) → ⊥))
unfolding wish_order
wish_kept t u marks counts x wish =
    let a = not-le-iff (tips t) x in
    let b = beq_iff (is_kept marks x) (restores wish) in
    let c = eq_iff (total_of (counts_of counts)) (fours (kept_of marks (tips t))) in
    let d = not-not (eqb (total_of (counts_of counts)) (fours (kept_of marks (tips t)))) in
    let o = and-not (restores wish) (overdrawn (counts_of counts) (holding_kept t u marks x)) in (
      λ k. (a.0 k.0, λ q. not_T (beq (is_kept marks x) (restores wish)) k.1.0 (b.1 q), c.0 (d.0 k.1.1.0), o.0 k.1.1.1.0),
      λ h. (a.1 h.0, (T-not_of (beq (is_kept marks x) (restores wish)) (λ y. h.1 (b.0 y)), (d.1 (c.1 h.2), (o.1 h.3, tt)))),
    )

-- accepted exactly if the tables are a pair, the marks are marks, the label is one of the tips' and not yet as wished, the
-- counts add up, and a strike takes no more from a case than it holds
pub change_check : (t u : Table) (marks : List ℕ) (counts : FiveCounts) (x : ℕ) (wish : Wish) → (refusal (change_order t u marks counts x wish) ≡ 0) ↔ Granted t u marks counts x wish
unfolding change_order
change_check t u marks counts x wish =
    let a = accepted (tables_order t u ++ (marks_order marks (tips t) ++ wish_order t u marks counts x wish)) numbered in
    let b = kept_append (tables_order t u) (marks_order marks (tips t) ++ wish_order t u marks counts x wish) in
    let c = kept_append (marks_order marks (tips t)) (wish_order t u marks counts x wish) in
    let p = tables_kept t u in
    let m = marks-kept marks (tips t) in
    let k = wish_kept t u marks counts x wish in (
      λ e. let r = b.0 (a.0 e) in let q = c.0 r.1 in let v = k.0 q.1 in record {
        pair = p.0 r.0;
        marked = m.0 q.0;
        label_lt = v.0;
        other = v.1;
        adds_up = v.2;
        held_enough = v.3;
      },
      λ h. a.1 (b.1 (p.1 h.pair, c.1 (m.1 h.marked, k.1 (h.label_lt, h.other, h.adds_up, h.held_enough)))),
    )
  where
    numbered : Numbered (tables_order t u ++ (marks_order marks (tips t) ++ wish_order t u marks counts x wish))
    numbered = change_numbered t u marks counts x wish

-- ---- the number and the counts of an answer

pub counts_told : (c : Counts) (k : Case) → counts_of (answer_counts (five_of c)) k ≡ c k
counts_told c A = refl
counts_told c B = refl
counts_told c C = refl
counts_told c D = refl
counts_told c E = refl

module _ (t u : Table) (marks : List ℕ) (counts : FiveCounts) (x : ℕ) (wish : Wish) where
  own_number : (k : ℕ) → (if_accepted k (five_of (new_counts t u marks counts x wish)) (refused_five k)).refusal ≡ k
  unfolding if_accepted
  own_number zero = refl
  own_number (suc k) = refl

  pub answer_number : (change_answer t u marks counts x wish).refusal ≡ refusal (change_order t u marks counts x wish)
  unfolding change_answer
  answer_number = own_number (refusal (change_order t u marks counts x wish))

  pub answer_counts_lem : refusal (change_order t u marks counts x wish) ≡ 0 → (k : Case)
      → counts_of (answer_counts (change_answer t u marks counts x wish)) k ≡ new_counts t u marks counts x wish k
  unfolding change_answer
  answer_counts_lem e k =
      ap (λ (r : FiveAnswer). counts_of (answer_counts r) k) (if_accepted_lem _ (five_of (new_counts t u marks counts x wish)) _ e)
      ∙ counts_told (new_counts t u marks counts x wish) k

-- ---- a fresh count adds up

module _ (t u : Table) (p : IsPair t u) (marks : List ℕ) (counts : FiveCounts) (f : Fresh t u marks (counts_of counts)) where
  pub fresh_total : total_of (counts_of counts) ≡ fours (kept_of marks (tips t))
  unfolding total_of
  fresh_total =
      let l = kept marks (tips t) in
      let r = kept-rising marks (tips t) in
      let r' = rising_of (tips t) (tips u) l p.same_tips r in
      let c : (k : Case) → counts_of counts k ≡ cases_in (shape_of t p.first l r) (shape_of u p.second l r') (case_number k) = λ k. f.counted k ∙ quartets_in_shapes l t u p.first p.second r r' k in
      omega (
        arith,
        c A,
        c B,
        c C,
        c D,
        c E,
        (formulas_in_shapes (shape_of t p.first l r) (shape_of u p.second l r')).all,
      )

  module _ (x : ℕ) (wish : Wish) (lw : x < tips t) (other : is_kept marks x ≢ restores wish) where
    abbrev old : List ℕ
    old = marks

    abbrev new : List ℕ
    new = set marks x (bit (restores wish))

    fits : x < length old
    fits = omega (arith, f.marked.long)

    new_at : word new x ≡ bit (restores wish)
    new_at = get_or-set_same old x (bit (restores wish)) 0 fits

    new_other : (y : ℕ) → y ≢ x → word new y ≡ word old y
    new_other y d = get_or-set_other old x y (bit (restores wish)) 0 d

    -- a mark is 1 where the label is kept, and 0 where it is not
    mark_is : word old x ≡ bit (is_kept old x)
    mark_is = elim (ℕ_discrete (word old x) 1) [
      | yes e ↦ e ∙ sym (unfold is_kept bit in ap bit (T_true (eqb (word old x) 1) ((eq_iff (word old x) 1).1 e)))
      | no d ↦ zero_word (word old x) (f.marked.low x lw) d
          ∙ sym (unfold is_kept bit in ap bit (T_false (eqb (word old x) 1) (λ y. d ((eq_iff (word old x) 1).0 y))))
    ]
      where
        zero_word : (v : ℕ) → v ≤ 1 → v ≢ 1 → v ≡ 0
        zero_word v l d = omega arith

    new_marks : AreMarks new (tips t)
    new_marks = record {
      long = length-set old x (bit (restores wish)) ∙ f.marked.long;
      low = λ y ly. elim (ℕ_discrete y x) [
        | yes e ↦ rw e (omega (arith, new_at, bit_le (restores wish)))
        | no d ↦ omega (arith, new_other y d, f.marked.low y ly)
      ];
    }

    -- the wish and the mark, both ways
    both : (b : Bool) → restores wish ≡ b → is_kept old x ≡ not b
    both true e = T_false (is_kept old x) (λ y. other (T_true (is_kept old x) y ∙ sym e))
    both false e = T_true (is_kept old x) (T_of (is_kept old x) (λ q. other (q ∙ sym e)))
      where
        T_of : (b : Bool) → (b ≡ false → ⊥) → T b
        T_of true h = tt
        T_of false h = h refl

    -- what a strike takes was there
    struck : restores wish ≡ false → (k : Case)
        → counts_of counts k ≡ quartets (kept new (tips t)) t u k + holding_kept t u old x k
    unfolding bit
    struck e k = f.counted k ∙ one-label_law t u p.first p.second p.same_tips x lw k old new
        (mark_is ∙ ap bit (both false e)) (new_at ∙ ap bit e) (λ y d. sym (new_other y d))

    restored : restores wish ≡ true → (k : Case)
        → quartets (kept new (tips t)) t u k ≡ counts_of counts k + holding_kept t u old x k
    unfolding bit
    restored e k =
        one-label_law t u p.first p.second p.same_tips x lw k new old
        (new_at ∙ ap bit e) (mark_is ∙ ap bit (both true e)) new_other
        ∙ omega (
          arith,
          f.counted k,
          holding-alike t u p.first p.second p.same_tips x lw k old new new_other,
        )

    pub fresh_counts : (k : Case) → new_count (restores wish) (counts_of counts k) (holding_kept t u marks x k)
        ≡ quartets (kept (set marks x (bit (restores wish))) (tips t)) t u k
    fresh_counts k = go (restores wish) refl
      where
        go : (b : Bool) → restores wish ≡ b → new_count b (counts_of counts k) (holding_kept t u old x k) ≡ quartets (kept new (tips t)) t u k
        go true e = unfold new_count in sym (restored e k)
        go false e = unfold new_count in omega (arith, struck e k)

    pub never_overdrawn : restores wish ≡ false → T (overdrawn (counts_of counts) (holding_kept t u marks x)) → ⊥
    unfolding overdrawn
    never_overdrawn e y =
        elim ((or-iff (short A) _).0 y) [
          | inl q ↦ enough A q
          | inr y ↦ elim ((or-iff (short B) _).0 y) [
            | inl q ↦ enough B q
            | inr y ↦ elim ((or-iff (short C) _).0 y) [
              | inl q ↦ enough C q
              | inr y ↦ elim ((or-iff (short D) (short E)).0 y) [ inl q ↦ enough D q | inr q ↦ enough E q ]
            ]
          ]
        ]
      where
        short : Case → Bool
        short k = ltb (counts_of counts k) (holding_kept t u old x k)

        enough : (k : Case) → T (ltb (counts_of counts k) (holding_kept t u old x k)) → ⊥
        enough k q = omega (arith, (lt_iff (counts_of counts k) (holding_kept t u old x k)).0 q, struck e k)

    pub fresh_changed : Fresh t u (set marks x (bit (restores wish))) (new_counts t u marks counts x wish)
    fresh_changed = record { marked = new_marks; counted = fresh_counts }

  -- after a fresh count the number is 0, 10 or 33
  pub fresh_number : (x : ℕ) (wish : Wish)
      → (refusal (change_order t u marks counts x wish) ≡ 0) ⊎ ((refusal (change_order t u marks counts x wish) ≡ 10) ⊎ (refusal (change_order t u marks counts x wish) ≡ 33))
  fresh_number x wish = go (leb (tips t) x) refl (beq (is_kept marks x) (restores wish)) refl
    where
      first : refusal (change_order t u marks counts x wish) ≡ refusal (wish_order t u marks counts x wish)
      first = unfold change_order in
          refusal-kept (tables_order t u) (marks_order marks (tips t) ++ wish_order t u marks counts x wish) ((tables_kept t u).1 p)
          ∙ refusal-kept (marks_order marks (tips t)) (wish_order t u marks counts x wish) ((marks-kept marks (tips t)).1 f.marked)

      go : (a : Bool) → leb (tips t) x ≡ a → (b : Bool) → beq (is_kept marks x) (restores wish) ≡ b
          → (refusal (change_order t u marks counts x wish) ≡ 0) ⊎ ((refusal (change_order t u marks counts x wish) ≡ 10) ⊎ (refusal (change_order t u marks counts x wish) ≡ 33))
      go true ea b eb = inr (inl (first ∙ (unfold wish_order in refusal_here 10 _ _ ea)))
      go false ea true eb = inr (inr (first ∙ (unfold wish_order in refusal_next 10 _ _ ea ∙ refusal_here 33 _ _ eb)))
      go false ea false eb =
          let lw : x < tips t = (not-le-iff (tips t) x).0 (rw ea tt) in
          let ot : is_kept marks x ≢ restores wish = λ q. subst T eb ((beq_iff _ _).1 q) in
          inl ((change_check t u marks counts x wish).1 (record {
            pair = p;
            marked = f.marked;
            label_lt = lw;
            other = ot;
            adds_up = fresh_total;
            held_enough = never_overdrawn x wish lw ot;
          }))

-- ---- what an accepted call changes

-- a case that holds less than is taken from it
pub drawn : (c held : Counts) (k : Case) → c k < held k → T (overdrawn c held)
unfolding overdrawn
drawn c held A l = (or-iff (ltb (c A) (held A)) _).1 (inl ((lt_iff _ _).1 l))
drawn c held B l = (or-iff (ltb (c A) (held A)) _).1 (inr ((or-iff (ltb (c B) (held B)) _).1 (inl ((lt_iff _ _).1 l))))
drawn c held C l = (or-iff (ltb (c A) (held A)) _).1 (inr ((or-iff (ltb (c B) (held B)) _).1
    (inr ((or-iff (ltb (c C) (held C)) _).1 (inl ((lt_iff _ _).1 l))))))
drawn c held D l = (or-iff (ltb (c A) (held A)) _).1 (inr ((or-iff (ltb (c B) (held B)) _).1
    (inr ((or-iff (ltb (c C) (held C)) _).1 (inr ((or-iff (ltb (c D) (held D)) _).1 (inl ((lt_iff _ _).1 l))))))))
drawn c held E l = (or-iff (ltb (c A) (held A)) _).1 (inr ((or-iff (ltb (c B) (held B)) _).1
    (inr ((or-iff (ltb (c C) (held C)) _).1 (inr ((or-iff (ltb (c D) (held D)) _).1 (inr ((lt_iff _ _).1 l))))))))

pub enough : (c held : Counts) → (T (overdrawn c held) → ⊥) → (k : Case) → held k ≤ c k
enough c held h k = elim (dec_le (held k) (c k)) [ yes l ↦ l | no l ↦ absurd (h (drawn c held k (omega arith))) ]

-- whatever counts were given, each new one differs from the given one by exactly the sets of its case that hold the label and
-- three other kept ones: a strike takes them off, a restored label adds them
module _ (t u : Table) (marks : List ℕ) (counts : FiveCounts) (x : ℕ) where
  pub strike_takes : (change_answer t u marks counts x Strike).refusal ≡ 0 → (k : Case)
      → counts_of counts k ≡ counts_of (answer_counts (change_answer t u marks counts x Strike)) k + holding_kept t u marks x k
  unfolding new_count
  strike_takes e k =
      let z = sym (answer_number t u marks counts x Strike) ∙ e in
      let h = (change_check t u marks counts x Strike).0 z in
      omega (
        arith,
        answer_counts_lem t u marks counts x Strike z k,
        enough (counts_of counts) (holding_kept t u marks x) (h.held_enough refl) k,
      )

  pub restore_adds : (change_answer t u marks counts x Restore).refusal ≡ 0 → (k : Case)
      → counts_of (answer_counts (change_answer t u marks counts x Restore)) k ≡ counts_of counts k + holding_kept t u marks x k
  unfolding new_count
  restore_adds e k = answer_counts_lem t u marks counts x Restore (sym (answer_number t u marks counts x Restore) ∙ e) k
