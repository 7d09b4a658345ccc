-- What the weighted distance's call answers, as its code finds it.
-- Assumes nothing.
use Rattle.std.specs.Prelude.{◌≡◌, refl, ◌≢◌, Bool, true, false, List, [], ◌∷◌, ℕ, ◌+◌, ◌*◌, ◌≤◌, eqb, length, Float, Ok, Err}
use Rattle.std.proofs.Math.Path.{sym}
use Rattle.std.proofs.Common.{◌∙◌, ap, subst, eq-eqb, ne_eqb}
use Rattle.sums.specs.Fours.{fours}
use Rattle.tree_check.specs.Table.{Table, tips}
use Rattle.tree_check.specs.declared.refusals.Refusal.{Refusal}
use Rattle.tree_check.specs.declared.refusals.Refusal.TheVariants.{Fraction}
use Rattle.tree_check.specs.Numbers.{refusal_number, refusal_named, answer_by}
use Rattle.tree_check.specs.Refusals.{refusal}
use Rattle.tree_check.specs.theorems.NumberLaws.{answer_ok, answer_err, answered_ok, answered_err, passed_on}
use Rattle.tree_check.specs.theorems.RefusalLaws.{if_accepted_lem, if_refused, refusal_none, refusal_here, refusal_next}
use Rattle.marks.specs.Marks.{kept_of}
use Rattle.counting.specs.Labels.{Labels}
use Rattle.counting.specs.Kept.{kept}
use Rattle.counting.proofs.theorems.KeptLaws.{kept-rising}
use Rattle.counting.specs.declared.Case.TheVariants.{B, C, D}
use Rattle.counting.specs.Cases.{quartets}
use Rattle.counting.proofs.theorems.QuartetTheorem.{quartet_theorem}
use Rattle.pair_check.specs.PairOrder.{pair_order, MarkedPair}
use Rattle.tree_pairs.specs.Crossings.{crossed_kept}
use Rattle.weights.specs.declared.weight.Weight.{Weight}
use Rattle.weights.specs.Weights.{over256, p_of, numerator_of}
use Rattle.weights.specs.WeightedAnswer.{fraction_order, weighted_order, weighted_over, refused_weight, weighted_answer, after_weighted}
use Rattle.weights.specs.WeightedAnswer.{WeightTold}
use Rattle.weights.specs.declared.distances.WeightedDistance.{WeightedDistance}
use Rattle.weights.proofs.theorems.WeightedDistance.{fraction_check, then_fraction, tables_first, weight_told}

-- ---- a fraction checked

pub told_30 : (p : Float) → numerator_of p ≡ 257 → refusal (fraction_order p) ≡ 30
unfolding fraction_order
told_30 p e = refusal_here 30 _ _ (eq-eqb (numerator_of p) 257 e)

pub no_fraction : (p : Float) → numerator_of p ≡ 257 → Err Fraction ≡ answer_by (refusal (fraction_order p)) (tt {0})
no_fraction p e = answer_err _ Fraction tt (told_30 p e)

pub a_fraction : (p : Float) → numerator_of p ≢ 257 → Ok (tt {0}) ≡ answer_by (refusal (fraction_order p)) (tt {0})
unfolding fraction_order
a_fraction p d = answer_ok _ tt tt (refusal_next 30 _ _ (ne_eqb (numerator_of p) 257 d) ∙ refusal_none) refl

-- the number of a refused fraction names its rule
only_30 : (p : Float) → refusal (fraction_order p) ≢ 0 → refusal_number (refusal_named (refusal (fraction_order p))) ≡ refusal (fraction_order p)
only_30 p = unfold fraction_order in go (eqb (numerator_of p) 257)
  where
    go : (b : Bool) → refusal ((30, b) ∷ []) ≢ 0 → refusal_number (refusal_named (refusal ((30, b) ∷ []))) ≡ refusal ((30, b) ∷ [])
    go true d = rw (refusal_here 30 true [] refl) (unfold refusal_named in refl)
    go false d = absurd (d (refusal_next 30 false [] refl ∙ refusal_none))

-- ---- the counts

pub fours_few : (t u : Table) (marks : List ℕ) (cells : ℕ) → MarkedPair t u marks cells
    → fours (kept_of marks (tips t)) ≤ 174792640
fours_few t u marks cells p =
    let q = p.with_cells.pair in
    (quartet_theorem (kept marks (tips t)) t u q.first q.second q.same_tips (kept-rising marks (tips t))).all_most

pub weighed_counts : (k b c d b' c' d' : ℕ) → b ≡ b' → c ≡ c' → d ≡ d'
    → over256 (256 * b + k * (c + d)) ≡ over256 (256 * b' + k * (c' + d'))
weighed_counts k b c d b' c' d' eb ec ed = rw (eb, ec, ed) refl

-- ---- the answers

module _ (t u : Table) (marks work : List ℕ) (w : Weight) where
  abbrev l : Labels
  l = kept marks (tips t)

  -- what a refused call gives, and leaves
  refused_by : (k : ℕ) → k ≡ refusal (weighted_order t u marks (length work) w) → k ≢ 0
      → (refused_weight k ≡ weighted_answer t u marks (length work) w) × (work ≡ after_weighted t u marks w work)
  unfolding weighted_answer after_weighted
  refused_by k e d = (rw e (sym (if_refused _ _ _ (λ z. d (e ∙ z)))), sym (if_refused _ _ _ (λ z. d (e ∙ z))))

  pub pair_refused : (k : ℕ) → k ≡ refusal (pair_order t u marks (length work)) → k ≢ 0
      → (refused_weight k ≡ weighted_answer t u marks (length work) w) × (work ≡ after_weighted t u marks w work)
  pair_refused k e d = refused_by k (e ∙ sym (tables_first t u marks (length work) w (λ z. d (e ∙ z)))) d

  module _ (q : MarkedPair t u marks (length work)) (p : Float) (ep : p ≡ p_of w) where
    number : refusal (fraction_order p) ≡ refusal (weighted_order t u marks (length work) w)
    number = ap (λ (x : Float). refusal (fraction_order x)) ep ∙ sym (then_fraction t u marks (length work) w q)

    pub fraction_refused : (r : Refusal) (k : ℕ) → Err r ≡ answer_by (refusal (fraction_order p)) (tt {0}) → k ≡ refusal_number r
        → (refused_weight k ≡ weighted_answer t u marks (length work) w) × (work ≡ after_weighted t u marks w work)
    fraction_refused r k e n =
        let h = passed_on (answered_err _ r tt (only_30 p) e) n in refused_by k (sym h.0 ∙ number) h.1

    pub fraction_fits : Ok (tt {0}) ≡ answer_by (refusal (fraction_order p)) (tt {0}) → numerator_of p ≤ 256
    fraction_fits e =
        rw ep ((fraction_check w).0 (ap (λ (x : Float). refusal (fraction_order x)) (sym ep) ∙ (answered_ok _ tt tt e).0))

    pub weighed : Ok (tt {0}) ≡ answer_by (refusal (fraction_order p)) (tt {0}) → (r : Float) (new : List ℕ)
        → r ≡ over256 (256 * quartets l t u B + numerator_of p * (quartets l t u C + quartets l t u D))
        → new ≡ crossed_kept t u marks work
        → (record { refusal = 0; distance = r } ≡ weighted_answer t u marks (length work) w) × (new ≡ after_weighted t u marks w work)
    unfolding weighted_answer after_weighted
    weighed e r new er en =
        let z : refusal (weighted_order t u marks (length work) w) ≡ 0 = sym number ∙ (answered_ok _ tt tt e).0 in (
          rw (er, ep) (sym (if_accepted_lem _ (weighted_over l t u w) _ z)),
          en ∙ sym (if_accepted_lem _ _ _ z),
        )

-- an answer, the cells afterwards, and what it tells
pub weight_says : (t u : Table) (marks work : List ℕ) (w : Weight) (r : WeightedDistance) (new : List ℕ)
    → (r ≡ weighted_answer t u marks (length work) w) × (new ≡ after_weighted t u marks w work)
    → (r ≡ weighted_answer t u marks (length work) w) × (new ≡ after_weighted t u marks w work)
    × WeightTold t u marks (length work) w r
weight_says t u marks work w r new h =
    (h.0, h.1, subst (WeightTold t u marks (length work) w) (sym h.0) (weight_told t u marks (length work) w))
