-- What the weighted distance's call accepts, and what its answer is.
-- Assumes nothing.
use Rattle.std.specs.Prelude.{◌≡◌, Bool, not, List, [], ◌++◌, ◌≢◌, ◌↔◌, T, eqb, pos}
use Rattle.std.proofs.Math.Path.{refl, subst}
use Rattle.std.proofs.Common.{sym, ◌∙◌, ap, mul-le-mul_right, lt_of_lt_of_le, arith, lit<, lit≤, eq-eqb, ne_eqb}
use Rattle.std.proofs.Math.Bool.{false}
use Prim.Native.Nat.{ℕ, zero, suc, ◌+◌, ◌*◌, ◌≤◌, ◌<◌}
use Rattle.std.proofs.Math.Decide.{ℕ_discrete}
use Rattle.std.specs.Float.{binary64}
use Rattle.std.specs.Float.Ieee.{le, of_int}
use Rattle.std.specs.Float.Ieee.Exact.{HasValue}
use Rattle.std.specs.Float.Ieee.Order.{round_mono}
use Rattle.std.specs.Float.Ieee.Scale.{round_same}
use Rattle.sums.specs.theorems.TestLaws.{not-lt-iff}
use Rattle.tree_check.specs.Table.{Table, tips}
use Rattle.tree_check.specs.Refusals.{refusal, if_accepted}
use Rattle.tree_check.specs.theorems.RefusalLaws.{Kept, refusal_none, refusal_here, refusal_next, refusal-first, refusal-kept, kept_append}
use Rattle.tree_check.specs.theorems.RefusalLaws.{if_accepted_lem, if_refused}
use Rattle.counting.specs.Labels.{Labels}
use Rattle.counting.specs.theorems.LabelLaws.{Rising}
use Rattle.counting.specs.declared.Case.TheVariants.{B, C, D}
use Rattle.counting.specs.Cases.{quartets, distance, weighted}
use Rattle.counting.specs.Kept.{kept}
use Rattle.counting.proofs.theorems.KeptLaws.{kept-rising}
use Rattle.counting.proofs.theorems.QuartetTheorem.{quartet_theorem}
use Rattle.marks.specs.Marks.{marks_order}
use Rattle.marks.proofs.theorems.MarksCheck.{marks-kept}
use Rattle.pair_check.specs.PairOrder.{tables_order, work_order, pair_order, IsPair, MarkedPair}
use Rattle.pair_check.specs.theorems.PairCheck.{tables_kept, pair_check}
use Rattle.weights.specs.declared.weight.Weight.{Weight}
use Rattle.weights.specs.declared.weight.Weight.TheVariants.{None, Full}
use Rattle.weights.specs.Weights.{over256, p_of, numerator_of, IsFraction}
use Rattle.weights.specs.declared.distances.WeightedDistance.{WeightedDistance}
use Rattle.weights.specs.WeightedAnswer.{fraction_order, weighted_order, weighted_over, refused_weight, weighted_answer, WeightTold}
use Rattle.weights.proofs.theorems.Fractions.{over_256_exact, numerator_iff, numerator_le}

-- ---- acceptance

-- the rule that the call adds is kept exactly if the fraction is a k/256
pub fraction_check : (w : Weight) → (refusal (fraction_order (p_of w)) ≡ 0) ↔ (numerator_of (p_of w) ≤ 256)
unfolding fraction_order
fraction_check w = (
  λ e. elim (ℕ_discrete (numerator_of (p_of w)) 257) [
    | yes h ↦ absurd (omega (arith, e, refusal_here 30 (eqb (numerator_of (p_of w)) 257) [] (eq-eqb (numerator_of (p_of w)) 257 h)))
    | no h ↦ omega (arith, h, numerator_le (p_of w))
  ],
  λ l. refusal_next 30 _ _ (ne_eqb (numerator_of (p_of w)) 257 (λ h. omega arith)) ∙ refusal_none,
)

module _ (t u : Table) (marks : List ℕ) (cells : ℕ) (w : Weight) where
  order_kept : MarkedPair t u marks cells → Kept (pair_order t u marks cells)
  unfolding pair_order work_order
  order_kept p =
      (kept_append (tables_order t u) (marks_order marks (tips t) ++ work_order t u cells)).1 (
        (tables_kept t u).1 p.with_cells.pair,
        (kept_append (marks_order marks (tips t)) (work_order t u cells)).1
            ((marks-kept marks (tips t)).1 p.marked, ((not-lt-iff cells _).1 p.with_cells.room, tt)),
      )

  -- the tables and the marks are accepted as in every pair call; only then the fraction is judged
  pub then_fraction : MarkedPair t u marks cells
      → refusal (weighted_order t u marks cells w) ≡ refusal (fraction_order (p_of w))
  unfolding weighted_order
  then_fraction p = refusal-kept (pair_order t u marks cells) _ (order_kept p)

  pub tables_first : refusal (pair_order t u marks cells) ≢ 0
      → refusal (weighted_order t u marks cells w) ≡ refusal (pair_order t u marks cells)
  unfolding weighted_order
  tables_first d = refusal-first (pair_order t u marks cells) _ d

  pub weighted_check : (refusal (weighted_order t u marks cells w) ≡ 0)
      ↔ MarkedPair t u marks cells × (numerator_of (p_of w) ≤ 256)
  weighted_check = (
    λ e. elim (ℕ_discrete (refusal (pair_order t u marks cells)) 0) [
      | yes z ↦ (
          let p = (pair_check t u marks cells).0 z in
          (p, (fraction_check w).0 (sym (then_fraction p) ∙ e)))
      | no d ↦ absurd (d (sym (tables_first d) ∙ e))
    ],
    λ h. then_fraction h.0 ∙ (fraction_check w).1 h.1,
  )

-- ---- the fractions of nothing and of full

pub none_is_0 : numerator_of (p_of None) ≡ 0
none_is_0 = (numerator_iff (p_of None) 0 (omega arith)).1 (record { sign = false; value = (refl, refl); zero_if = λ q. refl })

pub full_is_256 : numerator_of (p_of Full) ≡ 256
full_is_256 = (numerator_iff (p_of Full) 256 (omega arith)).1 (record {
  sign = false;
  value = (refl, refl);
  zero_if = λ q. absurd (subst (λ (b : Bool). T (not b)) q tt);
})

-- ---- the answer is exact, and never minus zero

module _ (l : Labels) (t u : Table) (p : IsPair t u) (r : Rising (tips t) l) (w : Weight) (m : numerator_of (p_of w) ≤ 256) where
  few : (quartets l t u B ≤ 174792640) × (quartets l t u C + quartets l t u D ≤ 174792640)
  few =
      let q = quartet_theorem l t u p.first p.second p.same_tips r in
      (q.count_most B, omega (arith, q.total, q.all_most, q.C_counts, q.D_counts))

  -- 256 times the answer is 256 · B + k · (C + D), and its sign is plus
  pub weighted_exact : HasValue (weighted_over l t u w).distance false (weighted (numerator_of (p_of w)) l t u) 256
  weighted_exact = over_256_exact _ (lt_of_lt_of_le (low _ (mul-le-mul_right (quartets l t u C + quartets l t u D) m)) (lit≤ tt))
    where
      low : (x : ℕ) → x ≤ 256 * (quartets l t u C + quartets l t u D) → 256 * quartets l t u B + x < 89493831681
      low x h = omega (arith, few)

-- ---- nothing gives B, full the distance, and the weighted distance grows with k

nothing : (b c k : ℕ) → k ≡ 0 → over256 (256 * b + k * c) ≡ of_int binary64 (pos b)
unfolding of_int
nothing b c k e = round_same binary64 false (256 * b + k * c) 256 b 1 (lit< tt) (lit< tt) (rw e (omega arith))

pub none_gives_B : (l : Labels) (t u : Table) → (weighted_over l t u None).distance ≡ of_int binary64 (pos (quartets l t u B))
none_gives_B l t u = nothing (quartets l t u B) (quartets l t u C + quartets l t u D) (numerator_of (p_of None)) none_is_0

everything : (b c k : ℕ) → k ≡ 256 → over256 (256 * b + k * c) ≡ of_int binary64 (pos (b + c))
unfolding of_int
everything b c k e = round_same binary64 false (256 * b + k * c) 256 (b + c) 1 (lit< tt) (lit< tt) (rw e (omega arith))

pub full_gives_distance : (l : Labels) (t u : Table)
    → (weighted_over l t u Full).distance ≡ of_int binary64 (pos (distance l t u))
full_gives_distance l t u =
    everything (quartets l t u B) (quartets l t u C + quartets l t u D) (numerator_of (p_of Full)) full_is_256
    ∙ ap (λ (x : ℕ). of_int binary64 (pos x)) (regroup (quartets l t u B) (quartets l t u C) (quartets l t u D))
  where
    regroup : (b c d : ℕ) → b + (c + d) ≡ b + c + d
    regroup b c d = omega arith

pub grows_with_k : (l : Labels) (t u : Table) (w w' : Weight) → numerator_of (p_of w) ≤ numerator_of (p_of w')
    → T (le (weighted_over l t u w).distance (weighted_over l t u w').distance)
grows_with_k l t u w w' m =
    round_mono binary64 _ 256 _ 256 (lit< tt) (lit< tt)
    (mul-le-mul_right 256 (more _ _ (mul-le-mul_right (quartets l t u C + quartets l t u D) m)))
  where
    more : (x y : ℕ) → x ≤ y → 256 * quartets l t u B + x ≤ 256 * quartets l t u B + y
    more x y h = omega arith

-- ---- what the call tells

module _ (t u : Table) (marks : List ℕ) (cells : ℕ) (w : Weight) where
  abbrev order_number : ℕ
  order_number = refusal (weighted_order t u marks cells w)

  abbrev answer_at : ℕ → WeightedDistance
  answer_at k = if_accepted k (weighted_over (kept marks (tips t)) t u w) (refused_weight k)

  number_at : (k : ℕ) → (answer_at k).refusal ≡ k
  unfolding if_accepted
  number_at zero = refl
  number_at (suc k) = refl

  -- a numerator of at most 256 is that of a fraction
  of_fraction : (k : ℕ) → k ≤ 256 → IsFraction (p_of w) k → numerator_of (p_of w) ≡ k
  of_fraction k l h = (numerator_iff (p_of w) k l).1 h

  pub weight_told : WeightTold t u marks cells w (weighted_answer t u marks cells w)
  unfolding weighted_answer
  weight_told = record {
    number = number_at order_number;
    accepted = (
      λ e. let h = (weighted_check t u marks cells w).0 (sym (number_at order_number) ∙ e) in
          (h.0, numerator_of (p_of w), h.1, (numerator_iff (p_of w) (numerator_of (p_of w)) h.1).0 refl),
      λ h. number_at order_number
          ∙ (weighted_check t u marks cells w).1 (h.0, subst (λ (j : ℕ). j ≤ 256) (sym (of_fraction h.1 h.2 h.3)) h.2),
    );
    exact = λ p k l h.
        let e = of_fraction k l h in
        let m : numerator_of (p_of w) ≤ 256 = subst (λ (j : ℕ). j ≤ 256) (sym e) l in
        rw (if_accepted_lem order_number (weighted_over (kept marks (tips t)) t u w) (refused_weight order_number)
        ((weighted_check t u marks cells w).1 (p, m)))
        (subst (λ (j : ℕ). HasValue (weighted_over (kept marks (tips t)) t u w).distance false
        (weighted j (kept marks (tips t)) t u) 256) e
        (weighted_exact (kept marks (tips t)) t u p.with_cells.pair (kept-rising marks (tips t)) w m));
    refused = λ n. rw (if_refused order_number (weighted_over (kept marks (tips t)) t u w) (refused_weight order_number)
        (λ z. n (number_at order_number ∙ z))) refl;
  }
