-- With the weight 127/256 the triangle fails: three trees with four tips, as `weighted_distance` answers them.
-- Assumes nothing.
use Rattle.std.specs.Prelude.{◌≡◌, refl, Bool, false, not, List, [], ◌∷◌, ℕ, T}
use Rattle.std.proofs.Common.{ap, subst, arith, lit<}
use Rattle.std.specs.Float.{binary64}
use Rattle.std.specs.Float.Ieee.{round, add, lt}
use Rattle.sums.specs.Sum.{sum}
use Rattle.sums.specs.Bits.{bit}
use Rattle.sums.specs.Tests.{some, every}
use Rattle.sums.specs.SetsOfFour.{sets2, sets3, sets4}
use Rattle.shapes.specs.Ancestors.{anc_in, anc}
use Rattle.shapes.specs.Quartets.{parts, parted}
use Rattle.tree_check.specs.Table.{Table, tips, nodes, parents, labels, parent, label, node_below, node_of}
use Rattle.tree_check.specs.Refusals.{refusal}
use Rattle.tree_check.specs.TreeOrder.{tips_fit, nodes_fit, parent_fits, label_fits, standing, labels_fit, labels_once, is_child, children, misplaced, arrays_order, tree_order}
use Rattle.marks.specs.Marks.{marks_order, is_kept}
use Rattle.trees.specs.Topology.{butterfly, partner, named, topology}
use Rattle.counting.specs.Kept.{kept_at, kept}
use Rattle.counting.specs.Cases.{case_of, is_case, topology_at, quartets, weighted}
use Rattle.metric.specs.theorems.BelowHalf.{With1, With2, Star4}
use Rattle.pair_check.specs.PairOrder.{plus, tips_order, tables_order, work_order, pair_order}
use Rattle.pair_check.specs.theorems.PairCheck.{pair_check}
use Rattle.weights.specs.declared.weight.Weight.{Weight}
use Rattle.weights.specs.declared.weight.Weight.TheVariants.{Part}
use Rattle.weights.specs.Weights.{over256, p_of, numerator_of, IsFraction}
use Rattle.weights.specs.WeightedAnswer.{weighted_over, weighted_answer}
use Rattle.weights.proofs.theorems.Fractions.{over_256_exact, numerator_iff}
use Rattle.three_trees.proofs.theorems.AcceptedAnswers.{weighed}
use Rattle.three_trees.proofs.theorems.ThreeAnswers.{sum_exact}

abbrev w127 : Weight
w127 = Part (over256 127)

abbrev all4 : List ℕ
all4 = 1 ∷ 1 ∷ 1 ∷ 1 ∷ []

fraction_127 : IsFraction (p_of w127) 127
fraction_127 = record {
  sign = false;
  value = over_256_exact 127 (lit< tt);
  zero_if = λ q. absurd (subst (λ (b : Bool). T (not b)) q tt);
}

is_127 : numerator_of (p_of w127) ≡ 127
is_127 = (numerator_iff (over256 127) 127 (omega arith)).1 fraction_127

-- each two of the three are accepted
pairs_accepted :
    (refusal (pair_order With1 Star4 all4 25) ≡ 0) × (refusal (pair_order Star4 With2 all4 25) ≡ 0)
    × (refusal (pair_order With1 With2 all4 25) ≡ 0)
unfolding
    refusal pair_order tables_order tips_order work_order marks_order plus tree_order arrays_order
    tips_fit nodes_fit parent_fits label_fits standing labels_fit labels_once is_child children misplaced
    sum bit some every tips nodes parents labels parent label
pairs_accepted = (refl, refl, refl)

numbers :
    (weighted 127 (kept all4 4) With1 Star4 ≡ 127) × (weighted 127 (kept all4 4) Star4 With2 ≡ 127)
    × (weighted 127 (kept all4 4) With1 With2 ≡ 256)
unfolding
    kept_at is_kept quartets topology_at is_case case_of topology named partner butterfly parts parted
    sets2 sets3 sets4 sum bit some anc_in anc tips nodes parents labels parent label node_below node_of
numbers = (refl, refl, refl)

below : T (lt (over256 254) (over256 256))
unfolding lt round
below = tt

module _ (t u : Table) (p : refusal (pair_order t u all4 25) ≡ 0) (n : 4 ≡ tips t) where
  answer : weighted_answer t u all4 25 w127 ≡ weighted_over (kept all4 4) t u w127
  answer = weighed t u all4 25 w127 4 n ((pair_check t u all4 25).0 p) (omega (arith, is_127))

  accepted_answer : (weighted_answer t u all4 25 w127).refusal ≡ 0
  accepted_answer = rw answer refl

  answered : (x : ℕ) → weighted 127 (kept all4 4) t u ≡ x → (weighted_answer t u all4 25 w127).distance ≡ over256 x
  answered x e = rw (answer, is_127) (ap over256 e)

-- from one butterfly to the other through the star is shorter
pub k_127_fails : IsFraction (p_of w127) 127
    × ((weighted_answer With1 Star4 all4 25 w127).refusal ≡ 0)
    × ((weighted_answer Star4 With2 all4 25 w127).refusal ≡ 0)
    × ((weighted_answer With1 With2 all4 25 w127).refusal ≡ 0)
    × T (lt (add binary64 (weighted_answer With1 Star4 all4 25 w127).distance (weighted_answer Star4 With2 all4 25 w127).distance)
    (weighted_answer With1 With2 all4 25 w127).distance)
unfolding tips
k_127_fails =
    let p = pairs_accepted in
    let e = numbers in (
      fraction_127,
      accepted_answer With1 Star4 p.0 refl,
      accepted_answer Star4 With2 p.1 refl,
      accepted_answer With1 With2 p.2 refl,
      rw (
        answered With1 Star4 p.0 refl 127 e.0,
        answered Star4 With2 p.1 refl 127 e.1,
        answered With1 With2 p.2 refl 256 e.2,
        sum_exact 127 127 (omega arith) (omega arith),
      ) below,
    )
