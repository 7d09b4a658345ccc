-- What the call gives, as its code finds it.
-- Assumes nothing.
use Rattle.std.specs.Prelude.{◌≡◌, ◌≢◌, ℕ, ◌*◌, ◌-◌, ◌≤◌, ◌<◌, length, replicate}
use Rattle.std.proofs.Math.Path.{sym, ap, ap₂}
use Rattle.std.proofs.Common.{◌∙◌, arith, lt-ltb, le-ltb}
use mathlib.Core.List.{List, []}
use Rattle.sums.specs.Lists.{in_order}
use Rattle.tree_check.specs.Table.{Table, nodes}
use Rattle.tree_check.specs.Refusals.{refusal}
use Rattle.tree_check.specs.theorems.RefusalLaws.{refusal_none, refusal_here, refusal_next, if_accepted_lem, if_refused}
use Rattle.tree_check.specs.IsTree.{IsTree}
use Rattle.tree_check.specs.TreeOrder.{tree_order}
use Rattle.tree_check.specs.theorems.TreeCheck.{tree_check}
use Rattle.walks.specs.theorems.WalkOrderLaws.{tree_refused, tree_accepted}
use Rattle.pair_check.specs.PairOrder.{cells_needed, work_order}
use Rattle.pair_check.specs.Clearing.{zeroed}
use Rattle.exchanges.specs.Exchanges.{tally}
use Rattle.exchange_distances.specs.declared.tallies.ExchangeAnswer.{ExchangeAnswer}
use Rattle.exchange_distances.specs.ExchangeAnswers.{tallies_under, tallies_answer}
use Rattle.exchange_tallies.specs.ExchangeTallies.{exchange_order, exchange_answer, after_exchanges}
use Rattle.exchange_tallies.specs.lemmas.Outcomes.{TalliesAnswered}

module _ (t : Table) (work : List ℕ) where
  -- a number other than 0
  refused : (k : ℕ) → refusal (exchange_order t (length work)) ≡ k → k ≢ 0
      → TalliesAnswered t work (record { refusal = k; tallies = replicate 11 0 }) work
  unfolding exchange_answer tallies_under after_exchanges
  refused k e d = (
    ap₂ (λ (n : ℕ) (l : List ℕ). record { refusal = n; tallies = l }) (sym e)
        (sym (if_refused _ (in_order 11 (tally t)) (replicate 11 0) (λ z. d (sym e ∙ z)))),
    sym (if_refused _ (zeroed (cells_needed t t) work) work (λ z. d (sym e ∙ z))),
  )

  pub tree_away : (k : ℕ) → refusal (tree_order t) ≡ k → k ≢ 0
      → TalliesAnswered t work (record { refusal = k; tallies = replicate 11 0 }) work
  tree_away k e d = refused k (unfold exchange_order in tree_refused t _ k e d) d

  module _ (g : IsTree t) (m : ℕ) (em : m ≡ nodes t) where
    pub short_away : length work < (m - 1) * (m - 1)
        → TalliesAnswered t work (record { refusal = 9; tallies = replicate 11 0 }) work
    short_away l = refused 9 (unfold exchange_order work_order in
        tree_accepted t _ g ∙ refusal_here 9 _ [] (lt-ltb (length work) (cells_needed t t) (rw em at l))) (λ e. omega arith)

    pub accepted : (m - 1) * (m - 1) ≤ length work → (r : ExchangeAnswer) (new : List ℕ) → r ≡ tallies_answer t
        → new ≡ zeroed ((m - 1) * (m - 1)) work → TalliesAnswered t work r new
    accepted l r new er en = (answer_is, cells_are)
      where
        number : refusal (exchange_order t (length work)) ≡ 0
        number = unfold exchange_order work_order in
            tree_accepted t _ g ∙ refusal_next 9 _ [] (le-ltb (length work) (cells_needed t t) (rw em at l)) ∙ refusal_none

        answer_is : r ≡ exchange_answer t (length work)
        answer_is = unfold exchange_answer tallies_answer in
            er ∙ ap (λ (k : ℕ). tallies_under k t) ((tree_check t).1 g ∙ sym number)

        cells_are : new ≡ after_exchanges t work
        cells_are = unfold after_exchanges in
            en ∙ ap (λ (k : ℕ). zeroed ((k - 1) * (k - 1)) work) em
            ∙ sym (if_accepted_lem _ (zeroed (cells_needed t t) work) work number)
