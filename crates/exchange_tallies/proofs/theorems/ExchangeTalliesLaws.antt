-- What the call accepts, and what its answer and the work cells hold, in ordinary mathematics.
-- Assumes nothing.
use Rattle.std.specs.Prelude.{◌≡◌, ◌≢◌, ◌↔◌, ℕ, ◌*◌, ◌-◌, ◌/◌, ◌≤◌, ◌<◌, ltb, length, replicate}
use Rattle.std.proofs.Math.Path.{refl, ap}
use Rattle.std.proofs.Common.{◌∙◌, arith}
use mathlib.Core.List.{List, [], ◌∷◌}
use Rattle.std.proofs.Math.ListN.{get_or-replicate}
use Rattle.sums.specs.Sum.{sum}
use Rattle.sums.specs.Lists.{in_order}
use Rattle.sums.specs.theorems.ListLaws.{in_order_at}
use Rattle.sums.specs.theorems.SumLaws.{sum_ext}
use Rattle.sums.specs.theorems.TestLaws.{not-lt-iff}
use Rattle.tree_check.specs.Table.{Table, word, tips}
use Rattle.tree_check.specs.Refusals.{refusal}
use Rattle.tree_check.specs.theorems.RefusalLaws.{if_accepted_lem, if_refused}
use Rattle.tree_check.specs.IsTree.{IsTree}
use Rattle.walks.specs.theorems.WalkOrderLaws.{after_tree}
use Rattle.pair_check.specs.PairOrder.{cells_needed, work_order}
use Rattle.pair_check.specs.Clearing.{zeroed}
use Rattle.pair_check.specs.theorems.ClearingLaws.{cleared, later_stay}
use Rattle.exchanges.specs.Exchanges.{tally}
use Rattle.exchanges.proofs.theorems.ExchangedTables.{tallies_add_up}
use Rattle.exchange_distances.specs.ExchangeAnswers.{tallies_under}
use Rattle.exchange_tallies.specs.ExchangeTallies.{exchange_order, exchange_answer, after_exchanges}

-- accepted exactly if the table is a tree table and there are (m − 1)(m − 1) cells
pub exchange_check : (t : Table) (cells : ℕ) → (refusal (exchange_order t cells) ≡ 0) ↔ (IsTree t × (cells_needed t t ≤ cells))
unfolding exchange_order work_order
exchange_check t cells =
    let a = after_tree t ((9, ltb cells (cells_needed t t)) ∷ []) (omega arith, tt) in
    let s = not-lt-iff cells (cells_needed t t) in
    (λ e. let r = a.0 e in (r.0, s.0 r.1.0), λ h. a.1 (h.0, (s.1 h.1, tt)))

module _ (t : Table) (cells : ℕ) where
  pub answer_number : (exchange_answer t cells).refusal ≡ refusal (exchange_order t cells)
  unfolding exchange_answer tallies_under
  answer_number = refl

  -- an accepted call tells the tallies, ..
  pub answer_tallies : refusal (exchange_order t cells) ≡ 0 → (i : ℕ) → i < 11
      → word (exchange_answer t cells).tallies i ≡ tally t i
  unfolding exchange_answer tallies_under
  answer_tallies e i l = ap (λ (x : List ℕ). word x i) (if_accepted_lem _ (in_order 11 (tally t)) (replicate 11 0) e)
      ∙ in_order_at 11 (tally t) i l

  -- .. which add up to n(n − 1)/2
  pub answer_adds_up : refusal (exchange_order t cells) ≡ 0
      → sum 11 (word (exchange_answer t cells).tallies) ≡ tips t * (tips t - 1) / 2
  answer_adds_up e =
      sum_ext 11 _ _ (λ i l. answer_tallies e i l) ∙ tallies_add_up t ((exchange_check t cells).0 e).0

  -- a refused one zeros
  pub answer_zeros : refusal (exchange_order t cells) ≢ 0 → (i : ℕ) → i < 11 → word (exchange_answer t cells).tallies i ≡ 0
  unfolding exchange_answer tallies_under
  answer_zeros d i l = ap (λ (x : List ℕ). word x i) (if_refused _ (in_order 11 (tally t)) (replicate 11 0) d)
      ∙ get_or-replicate 11 i 0 0 l

-- ---- the work cells

module _ (t : Table) (work : List ℕ) where
  pub cells_refused : refusal (exchange_order t (length work)) ≢ 0 → after_exchanges t work ≡ work
  unfolding after_exchanges
  cells_refused d = if_refused _ (zeroed (cells_needed t t) work) work d

  module _ (e : refusal (exchange_order t (length work)) ≡ 0) where
    accepted : after_exchanges t work ≡ zeroed (cells_needed t t) work
    unfolding after_exchanges
    accepted = if_accepted_lem _ (zeroed (cells_needed t t) work) work e

    room : cells_needed t t ≤ length work
    room = ((exchange_check t (length work)).0 e).1

    -- the first (m − 1)(m − 1) cells are 0 afterwards
    pub cells-zero : (c : ℕ) → c < cells_needed t t → word (after_exchanges t work) c ≡ 0
    cells-zero c l = ap (λ (x : List ℕ). word x c) accepted ∙ cleared (cells_needed t t) work room c l

    -- later ones stay
    pub cells_stay : (c : ℕ) → cells_needed t t ≤ c → word (after_exchanges t work) c ≡ word work c
    cells_stay c l = ap (λ (x : List ℕ). word x c) accepted ∙ later_stay (cells_needed t t) work room c l
