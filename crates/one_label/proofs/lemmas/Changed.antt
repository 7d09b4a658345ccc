-- The counts of a call that strikes or restores, as code forms them, and its outcomes.
-- Assumes nothing.
use Rattle.std.specs.Prelude.{◌≡◌, Bool, true, false, not, ◌&&◌, ◌||◌, ◌≢◌, Ok, List, [], ◌∷◌, ◌++◌, ℕ, ◌≤◌, ◌<◌, T, eqb, ltb, leb, set}
use Rattle.std.proofs.Math.Path.{refl, sym, fun_ext}
use Rattle.std.proofs.Common.{◌∙◌, ap, subst, append_assoc}
use Rattle.std.specs.Bool.{beq}
use native.Mathlib.Omega.{arith}
use borrow.Author.Tests.{ne_eqb, le-ltb, eqb-true}
use Rattle.sums.specs.Bits.{bit}
use Rattle.sums.specs.Fours.{fours}
use Rattle.sums.specs.theorems.FoursLaws.{fours_mono, fours_of_256}
use Rattle.sums.specs.theorems.BitLaws.{T_true}
use Rattle.tree_check.specs.Table.{Table, tips}
use Rattle.tree_check.specs.Refusals.{Rule, refusal}
use Rattle.tree_check.specs.theorems.RefusalLaws.{Numbered, accepted, numbered_append, refusal-first, refusal-kept, refusal_here, refusal_next, refusal_none, if_accepted_lem, if_refused}
use Rattle.marks.specs.Marks.{is_kept, kept_of, marks_order}
use Rattle.marks.proofs.theorems.MarksCheck.{kept_few, marks_numbered}
use Rattle.pair_check.specs.PairOrder.{tables_order}
use Rattle.pair_check.specs.theorems.PairCheck.{tables_numbered}
use Rattle.counting.specs.declared.Case.{Case}
use Rattle.counting.specs.declared.Case.TheVariants.{A, B, C, D, E}
use Rattle.one_label.specs.declared.answers.FiveAnswer.{FiveAnswer}
use Rattle.one_label.specs.declared.answers.FiveCounts.{FiveCounts}
use Rattle.one_label.specs.declared.answers.Wish.{Wish}
use Rattle.one_label.specs.declared.checks.Sizes.{Sizes}
use Rattle.one_label.proofs.theorems.ChangeLaws.{drawn, enough}
use Rattle.counting.specs.Holding.{holding_kept}
use Rattle.one_label.specs.Changes.{restores, total_of, overdrawn, wish_order, change_order, new_count, new_counts, change_answer, marks_after}
use Rattle.one_label.specs.FiveAnswers.{Counts, counts_of, five_of, refused_five, holding_order}
use Rattle.one_label.specs.lemmas.HeldCounts.{HeldAre}
use Rattle.one_label.specs.lemmas.LabelCheck.{LabelFound, LabelTold}
use Rattle.one_label.specs.lemmas.Changed.{AllFit, Outcome}

-- ---- sets of four

pub fours_few : (k : ℕ) → k ≤ 256 → fours k ≤ 174792640
fours_few k l = omega (arith, fours_mono k 256 l, fours_of_256)

-- ---- counts that add up

-- a count above the whole
pub above : (c : FiveCounts) (all : ℕ) (k : Case) → all < counts_of c k → false ≡ eqb (total_of (counts_of c)) all
above c all k l = sym (ne_eqb (total_of (counts_of c)) all (λ e. more k l e))
  where
    more : (k : Case) → all < counts_of c k → total_of (counts_of c) ≡ all → ⊥
    more A l e = unfold total_of in omega arith
    more B l e = unfold total_of in omega arith
    more C l e = unfold total_of in omega arith
    more D l e = unfold total_of in omega arith
    more E l e = unfold total_of in omega arith

-- ---- counts that fit

or-false : (a b : Bool) → (a || b) ≡ false → (a ≡ false) × (b ≡ false)
or-false true b e = absurd (subst T e tt)
or-false false b e = (refl, e)

part-le : (c : FiveCounts) (k : Case) → counts_of c k ≤ total_of (counts_of c)
unfolding total_of
part-le c A = omega arith
part-le c B = omega arith
part-le c C = omega arith
part-le c D = omega arith
part-le c E = omega arith

module _ (c held : FiveCounts) where
  pub draws_nothing : (b : Bool) → b ≡ true → false ≡ (not b && overdrawn (counts_of c) (counts_of held))
  draws_nothing true e = refl
  draws_nothing false e = absurd (subst T (sym e) tt)

  pub draws_at : (b : Bool) → b ≡ false → (k : Case) → counts_of c k < counts_of held k
      → true ≡ (not b && overdrawn (counts_of c) (counts_of held))
  draws_at true e k l = absurd (subst T e tt)
  draws_at false e k l = sym (T_true _ (drawn (counts_of c) (counts_of held) k l))

  pub draws_last : (b : Bool) → b ≡ false → held.a ≤ c.a → held.b ≤ c.b → held.c ≤ c.c → held.d ≤ c.d
      → ltb c.e held.e ≡ (not b && overdrawn (counts_of c) (counts_of held))
  draws_last true e la lb lc ld = absurd (subst T e tt)
  draws_last false e la lb lc ld =
      unfold overdrawn in rw (le-ltb c.a held.a la, le-ltb c.b held.b lb, le-ltb c.c held.c lc, le-ltb c.d held.d ld) refl

  pub all_fit : (b : Bool) → total_of (counts_of c) ≤ 174792640 → total_of (counts_of held) ≤ 2731135
      → (not b && overdrawn (counts_of c) (counts_of held)) ≡ false → AllFit b c held
  all_fit b lc lh e = record {
    fits = λ k. record {
      more_fits = λ q. omega (arith, part-le c k, part-le held k);
      less_fits = λ q. enough (counts_of c) (counts_of held) (λ y. subst T (struck b q e) y) k;
    };
  }
    where
      struck : (b : Bool) → b ≡ false → (not b && overdrawn (counts_of c) (counts_of held)) ≡ false → overdrawn (counts_of c) (counts_of held) ≡ false
      struck true q e = absurd (subst T q tt)
      struck false q e = e

-- ---- the call's number

holding_numbered : (t u : Table) (marks : List ℕ) (x : ℕ) → Numbered (holding_order t u marks x)
unfolding holding_order
holding_numbered t u marks x = numbered_append (tables_order t u) _ (tables_numbered t u)
    (numbered_append (marks_order marks (tips t)) _ (marks_numbered marks (tips t)) (omega arith, tt))

-- 33, 34 and 34
abbrev later : Table → Table → List ℕ → FiveCounts → ℕ → Wish → List Rule
later t u marks counts x wish =
    (33, beq (is_kept marks x) (restores wish))
    ∷ (34, not (eqb (total_of (counts_of counts)) (fours (kept_of marks (tips t)))))
    ∷ (34, not (restores wish) && overdrawn (counts_of counts) (holding_kept t u marks x))
    ∷ []

-- a call's order is that of the label, and then the later rules
split : (t u : Table) (marks : List ℕ) (counts : FiveCounts) (x : ℕ) (wish : Wish) → change_order t u marks counts x wish ≡ holding_order t u marks x ++ later t u marks counts x wish
unfolding change_order wish_order holding_order
split t u marks counts x wish = sym (
    append_assoc (tables_order t u) (marks_order marks (tips t) ++ ((10, leb (tips t) x) ∷ [])) (later t u marks counts x wish)
    ∙ ap (λ (l : List Rule). tables_order t u ++ l)
    (append_assoc (marks_order marks (tips t)) ((10, leb (tips t) x) ∷ []) (later t u marks counts x wish)))

module _ (t u : Table) (marks : List ℕ) (counts : FiveCounts) (x : ℕ) (wish : Wish) where
  refused_call : (k : ℕ) → k ≢ 0 → refusal (change_order t u marks counts x wish) ≡ k → Outcome t u marks counts x wish (refused_five k) marks
  unfolding change_answer marks_after
  refused_call k d e = (
    rw (sym e) (sym (if_refused _ (five_of (new_counts t u marks counts x wish)) _ (λ q. d (sym e ∙ q)))),
    sym (if_refused _ _ marks (λ q. d (sym e ∙ q))),
  )

  accepted_call : refusal (change_order t u marks counts x wish) ≡ 0
      → Outcome t u marks counts x wish (five_of (new_counts t u marks counts x wish)) (set marks x (bit (restores wish)))
  unfolding change_answer marks_after
  accepted_call e = (
    sym (if_accepted_lem _ (five_of (new_counts t u marks counts x wish)) _ e),
    sym (if_accepted_lem _ (set marks x (bit (restores wish))) marks e),
  )

  pub label_refused : (number : ℕ) → (refusal (holding_order t u marks x) ≡ number) × (number ≢ 0)
      → Outcome t u marks counts x wish (refused_five number) marks
  label_refused number h = refused_call number h.1
      (ap refusal (split t u marks counts x wish) ∙ refusal-first (holding_order t u marks x) _ (λ q. h.1 (sym h.0 ∙ q)) ∙ h.0)

  module _ (sizes : Sizes) (h : LabelTold t u marks x (Ok sizes)) where
    past : refusal (change_order t u marks counts x wish) ≡ refusal (later t u marks counts x wish)
    past = ap refusal (split t u marks counts x wish)
        ∙ refusal-kept (holding_order t u marks x) _
        ((accepted (holding_order t u marks x) (holding_numbered t u marks x)).0 (sym h.number))

    pub mark_refused : beq (is_kept marks x) (restores wish) ≡ true → Outcome t u marks counts x wish (refused_five 33) marks
    mark_refused e = refused_call 33 (λ q. omega arith) (past ∙ refusal_here 33 _ _ e)

    module _ (other : beq (is_kept marks x) (restores wish) ≡ false) where
      pub total_refused : eqb (total_of (counts_of counts)) (fours (kept_of marks (tips t))) ≡ false → Outcome t u marks counts x wish (refused_five 34) marks
      total_refused e = refused_call 34 (λ q. omega arith) (past ∙ refusal_next 33 _ _ other ∙ refusal_here 34 _ _ (ap not e))

      module _ (adds : eqb (total_of (counts_of counts)) (fours (kept_of marks (tips t))) ≡ true)
          (held : FiveCounts) (are : HeldAre t u marks x held) where
        same_held : counts_of held ≡ holding_kept t u marks x
        same_held = fun_ext are.held_is

        pub draw_refused : (not (restores wish) && overdrawn (counts_of counts) (counts_of held)) ≡ true → Outcome t u marks counts x wish (refused_five 34) marks
        draw_refused e = refused_call 34 (λ q. omega arith)
            (past ∙ refusal_next 33 _ _ other ∙ refusal_next 34 _ _ (ap not adds)
            ∙ refusal_here 34 _ _ (subst (λ (q : Counts). (not (restores wish) && overdrawn (counts_of counts) q) ≡ true) same_held e))

        pub change_accepted : (not (restores wish) && overdrawn (counts_of counts) (counts_of held)) ≡ false
            → Outcome t u marks counts x wish (five_of (λ k. new_count (restores wish) (counts_of counts k) (counts_of held k))) (set marks x (bit (restores wish)))
        change_accepted e =
            subst (λ (q : Counts). Outcome t u marks counts x wish (five_of (λ k. new_count (restores wish) (counts_of counts k) (q k))) (set marks x (bit (restores wish))))
            (sym same_held)
            (accepted_call (past ∙ refusal_next 33 _ _ other ∙ refusal_next 34 _ _ (ap not adds)
            ∙ refusal_next 34 _ _ (subst (λ (q : Counts). (not (restores wish) && overdrawn (counts_of counts) q) ≡ false) same_held e) ∙ refusal_none))

-- ---- what the code's own calls tell

pub five_same : (restore : Bool) (c held : FiveCounts) {v w x y z : ℕ} → v ≡ new_count restore c.a held.a
    → w ≡ new_count restore c.b held.b → x ≡ new_count restore c.c held.c → y ≡ new_count restore c.d held.d
    → z ≡ new_count restore c.e held.e
    → record { refusal = 0; a = v; b = w; c = x; d = y; e = z } ≡ five_of (λ k. new_count restore (counts_of c k) (counts_of held k))
five_same restore c held p q r s v = rw (p, q, r, s, v) refl

pub told_same : (marks : List ℕ) (x x' : ℕ) (b b' keeps v : Bool) → keeps ≡ is_kept marks x' → x' ≡ x → b ≡ b' → beq keeps b ≡ v
    → beq (is_kept marks x) b' ≡ v
told_same marks x x' b b' keeps v q r s e = rw (sym r, sym s, sym q) e

pub told_total : (t : Table) (marks : List ℕ) (c : FiveCounts) (all some : ℕ) (adds v : Bool) → adds ≡ eqb (total_of (counts_of c)) all
    → all ≡ fours some → some ≡ kept_of marks (tips t) → adds ≡ v → eqb (total_of (counts_of c)) (fours (kept_of marks (tips t))) ≡ v
told_total t marks c all some adds v p q s e = ap (eqb (total_of (counts_of c))) (sym (q ∙ ap fours s)) ∙ sym p ∙ e

pub told_draw : (c held : FiveCounts) (b b' drawn v : Bool) → drawn ≡ (not b && overdrawn (counts_of c) (counts_of held)) → b ≡ b' → drawn ≡ v
    → (not b' && overdrawn (counts_of c) (counts_of held)) ≡ v
told_draw c held b b' drawn v p q e = ap (λ (z : Bool). not z && overdrawn (counts_of c) (counts_of held)) (sym q) ∙ sym p ∙ e

pub kept_few_of : (t u : Table) (marks : List ℕ) (x n some m k : ℕ) → LabelFound t u marks x n some m k → kept_of marks (tips t) ≤ 256
kept_few_of t u marks x n some m k f = omega (arith, kept_few marks (tips t), f.first_sized.tree.tips_range.1)

pub kept_fits : (t u : Table) (marks : List ℕ) (x n some m k : ℕ) → LabelFound t u marks x n some m k → some ≤ 256
kept_fits t u marks x n some m k f = omega (arith, kept_few_of t u marks x n some m k f, f.kept_are)

pub total_fits : (t u : Table) (marks : List ℕ) (x n some m k : ℕ) (c : FiveCounts) → LabelFound t u marks x n some m k
    → eqb (total_of (counts_of c)) (fours (kept_of marks (tips t))) ≡ true → total_of (counts_of c) ≤ 174792640
total_fits t u marks x n some m k c f e =
    omega (arith, eqb-true (total_of (counts_of c)) (fours (kept_of marks (tips t))) e, fours_few (kept_of marks (tips t)) (kept_few_of t u marks x n some m k f))

-- the answer and the marks that the code leaves, by its own words for the label and the wish
pub marks_changed : (t u : Table) (marks : List ℕ) (counts : FiveCounts) (x : ℕ) (wish : Wish) (held : FiveCounts) (b : Bool) (y mark : ℕ)
    (answer : FiveAnswer) → b ≡ restores wish → y ≡ x → mark ≡ bit b
    → answer ≡ five_of (λ k. new_count b (counts_of counts k) (counts_of held k))
    → Outcome t u marks counts x wish (five_of (λ k. new_count (restores wish) (counts_of counts k) (counts_of held k))) (set marks x (bit (restores wish)))
    → Outcome t u marks counts x wish answer (set marks y mark)
marks_changed t u marks counts x wish held b y mark answer p q r e o = (
  e ∙ ap (λ (z : Bool). five_of (λ k. new_count z (counts_of counts k) (counts_of held k))) p ∙ o.0,
  ap (λ (z : ℕ). set marks z mark) q ∙ ap (set marks x) (r ∙ ap bit p) ∙ o.1,
)
