-- The distance that `quartet_table` answers is a metric on the trees with n tips, up to their kept splits.
-- Assumes nothing.
use Rattle.std.specs.Prelude.{◌≡◌, List, ℕ, ◌*◌, ◌-◌, ◌≤◌}
use Rattle.std.proofs.Common.{sym, ◌∙◌, ap, subst, mul-le-mul, arith}
use Rattle.tree_check.specs.Table.{nodes}
use Rattle.marks.specs.Marks.{AreMarks}
use Rattle.counting.specs.Kept.{kept}
use Rattle.counting.specs.Cases.{distance}
use Rattle.counting.proofs.theorems.KeptLaws.{kept-rising}
use Rattle.metric.specs.theorems.IsMetric.{IsMetric, Tree, SameTree}
use Rattle.metric.proofs.theorems.IsMetric.{distance_metric}
use Rattle.pair_check.specs.PairOrder.{MarkedPair}
use Rattle.quartets.specs.declared.tables.QuartetTable.{QuartetTable}
use Rattle.quartets.specs.QuartetAnswer.{quartet_answer}
use Rattle.quartets.proofs.theorems.DemandThree.{demand_three}
use Rattle.three_trees.specs.theorems.AnswersMetric.{AnswersAreMetric}
use Rattle.three_trees.proofs.theorems.AcceptedAnswers.{counted}

-- n marks, and cells enough for any two trees with n tips
module _ (n : ℕ) (marks : List ℕ) (a : AreMarks marks n) (c : ℕ) (room : (4 * n - 1) * (4 * n - 1) ≤ c) where
  edges : (t : Tree n) → nodes t.table - 1 ≤ 4 * n - 1
  edges t = let m = t.is_tree.nodes_range.1 in omega (arith, m, t.has_tips)

  enough : (t u : Tree n) → (nodes t.table - 1) * (nodes u.table - 1) ≤ c
  enough t u = omega (arith, room, mul-le-mul (edges t) (edges u))

  any_pair : (t u : Tree n) → MarkedPair t.table u.table marks c
  any_pair t u = record {
    with_cells = record {
      pair = record { first = t.is_tree; second = u.is_tree; same_tips = t.has_tips ∙ sym u.has_tips };
      room = enough t u;
    };
    marked = subst (AreMarks marks) (sym t.has_tips) a;
  }

  -- no two of them are refused
  pub none_refused : (t u : Tree n) → (quartet_answer t.table u.table marks c).refusal ≡ 0
  none_refused t u = (demand_three t.table u.table marks c).accepted.1 (any_pair t u)

  abbrev pub answered_distance : Tree n → Tree n → ℕ
  answered_distance t u = (quartet_answer t.table u.table marks c).distance

  is_distance : (t u : Tree n) → answered_distance t u ≡ distance (kept marks n) t.table u.table
  is_distance t u =
      ap (λ (r : QuartetTable). r.distance) (counted t.table u.table marks c n (sym t.has_tips) (any_pair t u))

  pub answers_metric : AnswersAreMetric n marks c
  answers_metric =
      let m = distance_metric n (kept marks n) (kept-rising marks n) in
      record {
        itself = λ t. is_distance t t ∙ m.itself t;
        zero_iff_same = λ t u. let z = m.zero_iff_same t u in
            (λ e. z.0 (sym (is_distance t u) ∙ e), λ s. is_distance t u ∙ z.1 s);
        either_way = λ t u. is_distance u t ∙ m.either_way t u ∙ sym (is_distance t u);
        triangle = λ t u v. omega (arith, m.triangle t u v, is_distance t v, is_distance t u, is_distance u v);
      }
