-- The quartet distance is a metric on trees up to their splits, and so is the weighted distance with k from 128 on.
-- Assumes nothing.
use Rattle.std.specs.Prelude.{◌≡◌, ◌↔◌, ℕ, ◌+◌, ◌*◌, ◌≤◌}
use Rattle.std.proofs.Common.{sym, ◌∙◌, ap, subst, mul-le-mul_right, arith}
use Rattle.shapes.proofs.theorems.SameSplits.{same_splits-refl}
use Rattle.counting.specs.Labels.{Labels}
use Rattle.counting.specs.declared.Case.TheVariants.{B, C, D}
use Rattle.counting.specs.Cases.{quartets, distance, weighted}
use Rattle.counting.specs.theorems.LabelLaws.{Rising}
use Rattle.counting.proofs.theorems.QuartetTheorem.{quartet_theorem}
use Rattle.metric.proofs.theorems.TreesExchanged.{trees_exchanged}
use Rattle.metric.proofs.theorems.Triangle.{weighted_distances, three_distances}
use Rattle.metric.specs.theorems.IsMetric.{IsMetric, SameTree, Tree}

module _ (n : ℕ) (l : Labels) (r : Rising n l) where
  zero_distance : (t u : Tree n) → (distance l t.table u.table ≡ 0) ↔ SameTree l t u
  zero_distance t u =
      let q = quartet_theorem l t.table u.table t.is_tree u.is_tree (t.has_tips ∙ sym u.has_tips)
      (subst (λ (k : ℕ). Rising k l) (sym t.has_tips) r) in
      (λ z. q.distance_zero.0 (q.distance_counts ∙ z), λ s. sym q.distance_counts ∙ q.distance_zero.1 s)

  same_as_itself : (t : Tree n) → SameTree l t t
  same_as_itself t = same_splits-refl _ _ _

  pub distance_metric : IsMetric (Tree n) (SameTree l) (λ t u. distance l t.table u.table)
  distance_metric = record {
    itself = λ t. (zero_distance t t).1 (same_as_itself t);
    zero_iff_same = zero_distance;
    either_way = λ t u. (trees_exchanged l t.table u.table).distance_stays;
    triangle = λ t u v. three_distances l t.table u.table v.table;
  }

  module _ (k : ℕ) (low : 128 ≤ k) where
    zero-parts : (b c d : ℕ) → (256 * b + k * (c + d) ≡ 0) ↔ (b + c + d ≡ 0)
    zero-parts b c d = (
      λ z. omega (arith, mul-le-mul_right (c + d) low),
      λ z. let none : c + d ≡ 0 = omega arith in omega (arith, ap (λ (x : ℕ). k * x) none),
    )

    zero-weighted : (t u : Tree n) → (weighted k l t.table u.table ≡ 0) ↔ SameTree l t u
    zero-weighted t u =
        let parts = zero-parts (quartets l t.table u.table B) (quartets l t.table u.table C) (quartets l t.table u.table D) in
        let zero = zero_distance t u in
        (λ z. zero.0 (parts.0 z), λ s. parts.1 (zero.1 s))

    pub weighted_metric : IsMetric (Tree n) (SameTree l) (λ t u. weighted k l t.table u.table)
    weighted_metric = record {
      itself = λ t. (zero-weighted t t).1 (same_as_itself t);
      zero_iff_same = zero-weighted;
      either_way = λ t u. (trees_exchanged l t.table u.table).weighted_stays k;
      triangle = λ t u v. weighted_distances k l t.table u.table v.table low;
    }
