-- Two trees exchanged: what the pair calls answer, with the same marks and as many cells.
-- Assumes nothing.
use Rattle.std.specs.Prelude.{◌≡◌, List, ℕ, ◌-◌}
use Rattle.std.proofs.Math.Path.{refl, ap}
use Rattle.std.proofs.Common.{sym, ◌∙◌, subst, mul_comm, arith}
use Rattle.tree_check.specs.Table.{Table, tips, nodes}
use Rattle.tree_check.specs.theorems.RefusalLaws.{if_accepted_lem}
use Rattle.marks.specs.Marks.{AreMarks}
use Rattle.counting.specs.Labels.{Labels}
use Rattle.counting.specs.Kept.{kept}
use Rattle.counting.specs.theorems.LabelLaws.{Rising}
use Rattle.counting.proofs.theorems.KeptLaws.{kept-rising}
use Rattle.metric.proofs.theorems.TreesExchanged.{trees_exchanged, sums_exchanged}
use Rattle.pair_check.specs.PairOrder.{MarkedPair}
use Rattle.pair_check.specs.theorems.PairCheck.{pair_check}
use Rattle.claims.specs.ClaimAnswer.{sums_over, claim_answer}
use Rattle.splits.specs.SplitAnswer.{splits_among, split_answer}
use Rattle.quartets.specs.QuartetAnswer.{cases_over, quartet_answer}
use Rattle.weights.specs.declared.weight.Weight.{Weight}
use Rattle.weights.specs.Weights.{p_of, numerator_of}
use Rattle.weights.specs.WeightedAnswer.{weighted_answer}
use Rattle.three_trees.proofs.theorems.AcceptedAnswers.{accepted_pair, counted, accepted_weight, weighed}
use Rattle.three_trees.specs.theorems.ExchangedAnswers.{AnswersExchanged, other_splits, other_sums, other_table}

module _ (t u : Table) (marks : List ℕ) (c : ℕ) (p : MarkedPair t u marks c) where
  abbrev l : Labels
  l = kept marks (tips t)

  same : tips t ≡ tips u
  same = p.with_cells.pair.same_tips

  -- as many cells are enough
  other_pair : MarkedPair u t marks c
  other_pair =
      let q = p.with_cells.pair in
      record {
        with_cells = record {
          pair = record { first = q.second; second = q.first; same_tips = sym q.same_tips };
          room = omega (arith, p.with_cells.room, mul_comm (nodes t - 1) (nodes u - 1));
        };
        marked = subst (AreMarks marks) q.same_tips p.marked;
      }

  other_cases : cases_over l u t ≡ other_table (cases_over l t u)
  other_cases = let e = trees_exchanged l t u in
      rw (e.A_stays, e.B_stays, e.C_is_D, e.D_is_C, e.E_stays) (ap (λ (d : ℕ). record {
        refusal = 0;
        a = (cases_over l t u).a;
        b = (cases_over l t u).b;
        c = (cases_over l t u).d;
        d = (cases_over l t u).c;
        e = (cases_over l t u).e;
        distance = d;
      }) (omega arith))

  other_table_lem : quartet_answer u t marks c ≡ other_table (quartet_answer t u marks c)
  other_table_lem =
      counted u t marks c (tips t) same other_pair ∙ other_cases ∙ ap other_table (sym (counted t u marks c (tips t) refl p))

  other_sums_lem : claim_answer u t marks c ≡ other_sums (claim_answer t u marks c)
  unfolding claim_answer
  other_sums_lem =
      let q = p.with_cells.pair in
      let s = sums_exchanged l t u q.first q.second same (kept-rising marks (tips t))
      (subst (λ (n : ℕ). Rising n l) same (kept-rising marks (tips t))) in
      if_accepted_lem _ _ _ ((pair_check u t marks c).1 other_pair)
      ∙ ap (λ (n : ℕ). sums_over (kept marks n) u t) (sym same)
      ∙ rw (s.0, s.1) refl
      ∙ ap other_sums (sym (if_accepted_lem _ _ _ ((pair_check t u marks c).1 p)))

  other_splits_lem : split_answer u t marks c ≡ other_splits (split_answer t u marks c)
  unfolding split_answer
  other_splits_lem =
      let e = trees_exchanged l t u in
      if_accepted_lem _ _ _ ((pair_check u t marks c).1 other_pair)
      ∙ ap (λ (n : ℕ). splits_among (kept marks n) u t) (sym same)
      ∙ rw (e.common_stays, e.robinson_foulds_stays) refl
      ∙ ap other_splits (sym (if_accepted_lem _ _ _ ((pair_check t u marks c).1 p)))

  other_weight : (w : Weight) → (weighted_answer t u marks c w).refusal ≡ 0 → weighted_answer u t marks c w ≡ weighted_answer t u marks c w
  other_weight w a =
      let m = (accepted_weight t u marks c w a).1 in
      weighed u t marks c w (tips t) same other_pair m
      ∙ rw ((trees_exchanged l t u).weighted_stays (numerator_of (p_of w))) refl
      ∙ sym (weighed t u marks c w (tips t) refl p m)

  answers-exchanged : AnswersExchanged t u marks c
  answers-exchanged = record {
    quartet_table = other_table_lem;
    claim_sums = other_sums_lem;
    split_counts = other_splits_lem;
    weighted_distance = other_weight;
  }

pub exchanged : (t u : Table) (marks : List ℕ) (c : ℕ) → (quartet_answer t u marks c).refusal ≡ 0 → AnswersExchanged t u marks c
exchanged t u marks c a = answers-exchanged t u marks c (accepted_pair t u marks c a)
