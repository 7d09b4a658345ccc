-- The weighted distance of a pair call: its order, its answer, and the cells afterwards (docs/SPECIFICATION.md, 'Weighted
-- distance').
-- Assumes nothing.
use Rattle.std.specs.Prelude.{◌≡◌, ◌≢◌, ◌↔◌, List, [], ◌∷◌, ◌++◌, ℕ, ◌≤◌, eqb, pos, length, false, Float}
use Rattle.std.specs.Float.{fin}
use Rattle.std.specs.Float.Ieee.Exact.{HasValue}
use Rattle.tree_check.specs.Table.{Table, tips}
use Rattle.tree_check.specs.Refusals.{Rule, refusal, if_accepted}
use Rattle.counting.specs.Labels.{Labels}
use Rattle.counting.specs.Kept.{kept}
use Rattle.counting.specs.Cases.{weighted}
use Rattle.pair_check.specs.PairOrder.{pair_order, MarkedPair}
use Rattle.tree_pairs.specs.Crossings.{crossed_kept}
use Rattle.weights.specs.declared.weight.Weight.{Weight}
use Rattle.weights.specs.declared.distances.WeightedDistance.{WeightedDistance}
use Rattle.weights.specs.Weights.{over256, p_of, numerator_of, IsFraction}

-- 30: the fraction is no k/256 with k from 0 to 256
unfoldable pub fraction_order : Float → List Rule
fraction_order p = (30, eqb (numerator_of p) 257) ∷ []

-- the pair's order, then the rule that this call adds
unfoldable pub weighted_order : Table → Table → List ℕ → ℕ → Weight → List Rule
weighted_order t u marks cells w = pair_order t u marks cells ++ fraction_order (p_of w)

-- B + k/256 · (C + D), over labels
abbrev pub weighted_over : Labels → Table → Table → Weight → WeightedDistance
weighted_over l t u w = record {
  refusal = 0;
  distance = over256 (weighted (numerator_of (p_of w)) l t u);
}

-- the number of a refused call, with zero
abbrev pub refused_weight : ℕ → WeightedDistance
refused_weight number = record { refusal = number; distance = fin false 0 (pos 0) }

-- over the kept labels
unfoldable pub weighted_answer : Table → Table → List ℕ → ℕ → Weight → WeightedDistance
weighted_answer t u marks cells w =
    let number = refusal (weighted_order t u marks cells w) in
    if_accepted number (weighted_over (kept marks (tips t)) t u w) (refused_weight number)

-- the cells after the call; a refusal, 30 as any other, leaves every cell as it was
unfoldable pub after_weighted : Table → Table → List ℕ → Weight → List ℕ → List ℕ
after_weighted t u marks w work =
    if_accepted (refusal (weighted_order t u marks (length work) w)) (crossed_kept t u marks work) work

-- what the call tells, for any tables, marks, number of cells and weight, in ordinary mathematics
pub record WeightTold (t u : Table) (marks : List ℕ) (cells : ℕ) (w : Weight) (r : WeightedDistance) : Type 0 where
  pub number : r.refusal ≡ refusal (weighted_order t u marks cells w)
  -- accepted exactly if the pair is, and the weight is a k/256 with k from 0 to 256
  pub accepted : (r.refusal ≡ 0) ↔ (MarkedPair t u marks cells × (k : ℕ) × (k ≤ 256) × IsFraction (p_of w) k)
  -- 256 times the answer is 256 · B + k · (C + D), exactly, and the answer is never minus zero
  pub exact : MarkedPair t u marks cells → (k : ℕ) → k ≤ 256 → IsFraction (p_of w) k → (let l = kept marks (tips t) in
      HasValue r.distance false (weighted k l t u) 256)
  -- a refusal answers zero, with the sign plus
  pub refused : r.refusal ≢ 0 → r.distance ≡ fin false 0 (pos 0)
