-- With all marks 1 the weighted distance is that of all labels, and the cells are those that a call without marks leaves
-- (docs/SPECIFICATION.md, 'Kept labels').
-- Assumes nothing.
use Rattle.std.specs.Prelude.{◌≡◌, List, ℕ, length}
use Rattle.std.proofs.Math.Path.{refl, sym}
use Rattle.std.proofs.Common.{◌∙◌}
use Rattle.tree_check.specs.Table.{Table, tips}
use Rattle.tree_check.specs.Refusals.{refusal}
use Rattle.tree_check.specs.theorems.RefusalLaws.{if_accepted_lem}
use Rattle.marks.proofs.theorems.Ones.{ones}
use Rattle.counting.specs.Labels.{all}
use Rattle.counting.specs.Kept.{kept}
use Rattle.counting.specs.declared.Case.TheVariants.{B, C, D}
use Rattle.counting.proofs.theorems.AllKept.{figures-alike}
use Rattle.pair_check.specs.PairOrder.{PairWithCells}
use Rattle.pair_check.specs.theorems.PairCheck.{pair_check}
use Rattle.tree_pairs.specs.Crossings.{after_crossings, after_all}
use Rattle.quartets.proofs.theorems.AllMarksOne.{ones-alike, ones_marked, ones_cross_all}
use Rattle.weights.specs.declared.weight.Weight.{Weight}
use Rattle.weights.specs.Weights.{p_of}
use Rattle.weights.specs.WeightedAnswer.{fraction_order, weighted_over, weighted_answer, after_weighted}
use Rattle.weights.proofs.theorems.WeightedDistance.{then_fraction}

-- for every pair that is accepted without marks, and every weight that is accepted
module _ (t u : Table) (w : Weight) (z : refusal (fraction_order (p_of w)) ≡ 0) where
  pub all_weighed_lem : (cells : ℕ) → PairWithCells t u cells
      → weighted_answer t u (ones (tips t)) cells w ≡ weighted_over (all (tips t)) t u w
  unfolding weighted_answer
  all_weighed_lem cells p =
      let f = figures-alike (kept (ones (tips t)) (tips t)) (all (tips t)) (ones-alike (tips t)) t u in
      if_accepted_lem _ _ _ (then_fraction t u (ones (tips t)) cells w (ones_marked t u cells p) ∙ z)
      ∙ rw (f.counts B, f.counts C, f.counts D) refl

  pub all_weighed-cells : (work : List ℕ) → PairWithCells t u (length work)
      → after_weighted t u (ones (tips t)) w work ≡ after_all t u work
  unfolding after_weighted after_crossings
  all_weighed-cells work p =
      let m = ones_marked t u (length work) p in
      if_accepted_lem _ _ _ (then_fraction t u (ones (tips t)) (length work) w m ∙ z)
      ∙ sym (if_accepted_lem _ _ _ ((pair_check t u (ones (tips t)) (length work)).1 m))
      ∙ ones_cross_all t u work
