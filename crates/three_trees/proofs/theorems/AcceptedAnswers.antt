-- What accepted calls answer, over the kept labels of either tree.
-- Assumes nothing.
use Rattle.std.specs.Prelude.{◌≡◌, List, ℕ, ◌≤◌}
use Rattle.std.proofs.Common.{sym, ◌∙◌}
use Rattle.std.proofs.Math.Path.{ap}
use Rattle.tree_check.specs.Table.{Table, tips}
use Rattle.tree_check.specs.theorems.RefusalLaws.{if_accepted_lem}
use Rattle.counting.specs.Kept.{kept}
use Rattle.pair_check.specs.PairOrder.{MarkedPair}
use Rattle.quartets.specs.QuartetAnswer.{cases_over, quartet_answer}
use Rattle.quartets.proofs.theorems.DemandThree.{accepted, demand_three}
use Rattle.weights.specs.declared.weight.Weight.{Weight}
use Rattle.weights.specs.Weights.{p_of, numerator_of}
use Rattle.weights.specs.WeightedAnswer.{weighted_over, weighted_answer}
use Rattle.weights.proofs.theorems.WeightedDistance.{weighted_check, weight_told}

module _ (t u : Table) (marks : List ℕ) (c : ℕ) where
  pub accepted_pair : (quartet_answer t u marks c).refusal ≡ 0 → MarkedPair t u marks c
  accepted_pair a = (demand_three t u marks c).accepted.0 a

  -- over the kept labels of n, the number of tips
  pub counted : (n : ℕ) → n ≡ tips t → MarkedPair t u marks c → quartet_answer t u marks c ≡ cases_over (kept marks n) t u
  counted n e p = accepted t u marks c p ∙ ap (λ (j : ℕ). cases_over (kept marks j) t u) (sym e)

  module _ (w : Weight) where
    pub accepted_weight : (weighted_answer t u marks c w).refusal ≡ 0 → MarkedPair t u marks c × (numerator_of (p_of w) ≤ 256)
    accepted_weight a = (weighted_check t u marks c w).0 (sym (weight_told t u marks c w).number ∙ a)

    pub weighed : (n : ℕ) → n ≡ tips t → MarkedPair t u marks c → numerator_of (p_of w) ≤ 256
        → weighted_answer t u marks c w ≡ weighted_over (kept marks n) t u w
    unfolding weighted_answer
    weighed n e p m =
        if_accepted_lem _ _ _ ((weighted_check t u marks c w).1 (p, m)) ∙ ap (λ (j : ℕ). weighted_over (kept marks j) t u w) (sym e)
