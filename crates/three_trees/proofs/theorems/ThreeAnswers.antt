-- Three trees under the same marks, each two of them accepted: the triangle of their quartet distances, and of their weighted
-- distances with k from 128 on, as the calls answer them.
-- Assumes nothing.
use Rattle.std.specs.Prelude.{◌≡◌, refl, false, List, ℕ, ◌+◌, ◌*◌, ◌^◌, ◌≤◌, ◌<◌, Float}
use Rattle.std.proofs.Common.{sym, ◌∙◌, subst, mul-le-mul_right, lt_of_lt_of_le, arith, lit<, lit≤}
use Rattle.std.specs.Float.{binary64}
use Rattle.std.specs.Float.Ieee.{add}
use Rattle.std.specs.Float.Ieee.Exact.{HasValue}
use Rattle.std.specs.Float.Ieee.Order.{le_of_values}
use Rattle.std.specs.Float.Ieee.Scale.{round_same}
use Rattle.tree_check.specs.Table.{Table, tips}
use Rattle.counting.specs.Labels.{Labels}
use Rattle.counting.specs.Kept.{kept}
use Rattle.counting.specs.declared.Case.TheVariants.{B, C, D}
use Rattle.counting.specs.Cases.{quartets, weighted}
use Rattle.counting.specs.theorems.LabelLaws.{Rising}
use Rattle.counting.proofs.theorems.KeptLaws.{kept-rising}
use Rattle.counting.proofs.theorems.QuartetTheorem.{quartet_theorem}
use Rattle.metric.proofs.theorems.Triangle.{weighted_distances, three_distances}
use Rattle.pair_check.specs.PairOrder.{IsPair}
use Rattle.quartets.specs.QuartetAnswer.{quartet_answer}
use Rattle.weights.specs.declared.weight.Weight.{Weight}
use Rattle.weights.specs.declared.weight.Weight.TheVariants.{Full}
use Rattle.weights.specs.Weights.{over256, p_of, IsFraction}
use Rattle.weights.specs.WeightedAnswer.{weighted_answer}
use Rattle.weights.proofs.theorems.Fractions.{over_256_exact, numerator_iff}
use Rattle.weights.proofs.theorems.WeightedDistance.{full_is_256}
use Rattle.weights.proofs.lemmas.ExactProducts.{add_value}
use Rattle.three_trees.proofs.theorems.AcceptedAnswers.{accepted_pair, counted, accepted_weight, weighed}
use Rattle.three_trees.specs.theorems.ThreeAnswers.{ExactTriangle}

-- ---- a sum of two answers is exact

few : (l : Labels) (t u : Table) → IsPair t u → Rising (tips t) l → (k : ℕ) → k ≤ 256 → weighted k l t u ≤ 89493831680
few l t u p r k m =
    let q = quartet_theorem l t u p.first p.second p.same_tips r in
    low _ (q.count_most B) (omega (arith, q.total, q.all_most, q.C_counts, q.D_counts))
    (mul-le-mul_right (quartets l t u C + quartets l t u D) m)
  where
    low : (x : ℕ) → quartets l t u B ≤ 174792640 → quartets l t u C + quartets l t u D ≤ 174792640
        → x ≤ 256 * (quartets l t u C + quartets l t u D) → 256 * quartets l t u B + x ≤ 89493831680
    low x a b h = omega arith

exact : (a : ℕ) → a ≤ 178987663360 → a < 2 ^ 53
exact a m = lt_of_lt_of_le (small a m) (lit≤ tt)
  where
    small : (a : ℕ) → a ≤ 178987663360 → a < 178987663361
    small a m = omega arith

pub sum_exact : (a b : ℕ) → a ≤ 89493831680 → b ≤ 89493831680 → add binary64 (over256 a) (over256 b) ≡ over256 (a + b)
sum_exact a b la lb =
    add_value (over256 a) (over256 b) a 256 b 256 (lit< tt) (lit< tt) (over_256_exact a (exact a (omega arith))) (over_256_exact b (exact b (omega arith)))
    ∙ round_same binary64 false (a * 256 + b * 256) (256 * 256) (a + b) 256 (lit< tt) (lit< tt) (omega arith)

-- ---- the triangle

exact_triangle : (a b c : ℕ) → a ≤ 89493831680 → b ≤ 89493831680 → c ≤ a + b
    → ExactTriangle a b c (over256 a) (over256 b) (over256 c)
exact_triangle a b c la lb h =
    let sum : HasValue (add binary64 (over256 a) (over256 b)) false (a + b) 256 =
    subst (λ (x : Float). HasValue x false (a + b) 256) (sym (sum_exact a b la lb)) (over_256_exact (a + b) (exact (a + b) (omega arith))) in
    let third : HasValue (over256 c) false c 256 = over_256_exact c (exact c (omega arith)) in
    record {
      first_value = over_256_exact a (exact a (omega arith));
      second_value = over_256_exact b (exact b (omega arith));
      third_value = third;
      sum_value = sum;
      numbers = h;
      floats = le_of_values (over256 c) (add binary64 (over256 a) (over256 b)) c 256 (a + b) 256 (lit< tt) (lit< tt) third sum
          (mul-le-mul_right 256 h);
    }

-- the kept labels are those of each tree
module _ (t u v : Table) (marks : List ℕ) (c c' c'' : ℕ) where
  abbrev l : Labels
  l = kept marks (tips t)

  pub triangle : (quartet_answer t u marks c).refusal ≡ 0 → (quartet_answer u v marks c').refusal ≡ 0 → (quartet_answer t v marks c'').refusal ≡ 0
      → (quartet_answer t v marks c'').distance ≤ (quartet_answer t u marks c).distance + (quartet_answer u v marks c').distance
  triangle a b d =
      let p = accepted_pair t u marks c a in
      let q = accepted_pair u v marks c' b in
      let r = accepted_pair t v marks c'' d in
      rw (
        counted t v marks c'' (tips t) refl r,
        counted t u marks c (tips t) refl p,
        counted u v marks c' (tips t) p.with_cells.pair.same_tips q,
      ) (three_distances l t u v)

  pub weighted_triangle : (w : Weight) → (weighted_answer t u marks c w).refusal ≡ 0 → (weighted_answer u v marks c' w).refusal ≡ 0
      → (weighted_answer t v marks c'' w).refusal ≡ 0 → (k : ℕ) → k ≤ 256 → IsFraction (p_of w) k → 128 ≤ k
      → ExactTriangle (weighted k l t u) (weighted k l u v) (weighted k l t v)
      (weighted_answer t u marks c w).distance (weighted_answer u v marks c' w).distance (weighted_answer t v marks c'' w).distance
  weighted_triangle w a b d k m f low =
      let p = accepted_weight t u marks c w a in
      let q = accepted_weight u v marks c' w b in
      let r = accepted_weight t v marks c'' w d in
      let first = p.0.with_cells.pair in
      rw (
        weighed t v marks c'' w (tips t) refl r.0 r.1,
        weighed t u marks c w (tips t) refl p.0 p.1,
        weighed u v marks c' w (tips t) first.same_tips q.0 q.1,
        (numerator_iff (p_of w) k m).1 f,
      )
      (exact_triangle (weighted k l t u) (weighted k l u v) (weighted k l t v)
      (few l t u first (kept-rising marks (tips t)) k m)
      (few l u v q.0.with_cells.pair (subst (λ (n : ℕ). Rising n l) first.same_tips (kept-rising marks (tips t))) k m)
      (weighted_distances k l t u v low))

  pub full_triangle : (weighted_answer t u marks c Full).refusal ≡ 0 → (weighted_answer u v marks c' Full).refusal ≡ 0
      → (weighted_answer t v marks c'' Full).refusal ≡ 0
      → ExactTriangle (weighted 256 l t u) (weighted 256 l u v) (weighted 256 l t v)
      (weighted_answer t u marks c Full).distance (weighted_answer u v marks c' Full).distance (weighted_answer t v marks c'' Full).distance
  full_triangle a b d =
      weighted_triangle Full a b d 256 (omega arith) ((numerator_iff (p_of Full) 256 (omega arith)).0 full_is_256) (omega arith)
