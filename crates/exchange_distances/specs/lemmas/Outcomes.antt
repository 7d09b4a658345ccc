-- What the calls give, as their code finds it.
-- Assumes nothing.
use Rattle.std.specs.Prelude.{◌≡◌, refl, List, [], ◌∷◌, ◌≢◌, ℕ, replicate}
use Rattle.std.proofs.Common.{sym, ◌∙◌, ap₂, arith}
use Rattle.std.proofs.Math.Path.{ap}
use Rattle.sums.specs.Lists.{in_order}
use Rattle.tree_check.specs.Table.{Table, tips}
use Rattle.tree_check.specs.Refusals.{refusal, if_accepted}
use Rattle.tree_check.specs.theorems.RefusalLaws.{if_accepted_lem, if_refused}
use Rattle.tree_check.specs.IsTree.{IsTree}
use Rattle.tree_check.specs.TreeOrder.{tree_order}
use Rattle.tree_check.specs.theorems.TreeCheck.{tree_check}
use Rattle.walks.specs.theorems.WalkOrderLaws.{tree_refused, tree_accepted}
use Rattle.asked_labels.specs.LabelOrder.{asked_order, label_order}
use Rattle.asked_labels.specs.theorems.LabelOrderLaws.{label_check}
use Rattle.exchanges.specs.Exchanges.{exchange_distance, tally}
use Rattle.exchanges.specs.theorems.Others.{Two}
use Rattle.exchange_distances.specs.declared.distances.ExchangeDistance.{ExchangeDistance}
use Rattle.exchange_distances.specs.declared.tallies.ExchangeAnswer.{ExchangeAnswer}
use Rattle.exchange_distances.specs.ExchangeAnswers.{distance_answer, tallies_under, tallies_answer}

-- ---- one exchange

abbrev pub distance_told : ℕ → ℕ → ExchangeDistance
distance_told number distance = record { refusal = number; distance = distance }

module _ (t : Table) (x y : ℕ) where
  told : (k : ℕ) → refusal (label_order t (x ∷ y ∷ [])) ≡ k
      → distance_told k (if_accepted k (exchange_distance t x y) 0) ≡ distance_answer t x y
  unfolding distance_answer
  told k e = ap (λ (j : ℕ). distance_told j (if_accepted j (exchange_distance t x y) 0)) (sym e)

  refused : (k : ℕ) → refusal (label_order t (x ∷ y ∷ [])) ≡ k → k ≢ 0 → distance_told k 0 ≡ distance_answer t x y
  refused k e d = ap (distance_told k) (sym (if_refused k (exchange_distance t x y) 0 d)) ∙ told k e

  -- 1 to 7 and 31
  pub distance_refused : (k : ℕ) → refusal (tree_order t) ≡ k → k ≢ 0 → distance_told k 0 ≡ distance_answer t x y
  unfolding label_order
  distance_refused k e d = refused k (tree_refused t (asked_order (tips t) (x ∷ y ∷ [])) k e d) d

  module _ (g : IsTree t) (n : ℕ) (en : n ≡ tips t) (k : ℕ) (e : k ≡ refusal (asked_order n (x ∷ y ∷ []))) where
    asked : refusal (label_order t (x ∷ y ∷ [])) ≡ k
    unfolding label_order
    asked = rw (e, en) (tree_accepted t (asked_order (tips t) (x ∷ y ∷ [])) g)

    -- 10 or 11
    pub labels_refused : k ≢ 0 → distance_told k 0 ≡ distance_answer t x y
    labels_refused d = refused k asked d

    -- two labels of the table, as the code passes them on
    pub two_labels : k ≡ 0 → (n' x' y' : ℕ) → n' ≡ tips t → x' ≡ x → y' ≡ y → Two n' x' y'
    two_labels z n' x' y' e' ex ey =
        let c = (label_check t (x ∷ y ∷ [])).0 (asked ∙ z) in
        record {
          lx = omega (arith, c.1 0 (omega arith));
          ly = omega (arith, c.1 1 (omega arith));
          xy = λ q. c.2 1 0 (omega arith) (omega arith) (sym ex ∙ q ∙ ey);
        }

    pub distance_told_lem : k ≡ 0 → (d : ℕ) → d ≡ exchange_distance t x y → distance_told 0 d ≡ distance_answer t x y
    distance_told_lem z d q =
        ap (distance_told 0) (q ∙ sym (if_accepted_lem 0 (exchange_distance t x y) 0 refl)) ∙ told 0 (asked ∙ z)

-- ---- all exchanges

abbrev pub tallied : ℕ → List ℕ → ExchangeAnswer
tallied number tallies = record { refusal = number; tallies = tallies }

pub tallies_refused : (t : Table) (k : ℕ) → refusal (tree_order t) ≡ k → k ≢ 0 → tallied k (replicate 11 0) ≡ tallies_answer t
unfolding tallies_answer tallies_under
tallies_refused t k e d =
    ap₂ tallied (sym e) (sym (if_refused _ (in_order 11 (tally t)) (replicate 11 0) (λ z. d (sym e ∙ z))))

pub tallies_told : (t : Table) → IsTree t → (tallies : List ℕ) → tallies ≡ in_order 11 (tally t)
    → tallied 0 tallies ≡ tallies_answer t
unfolding tallies_answer tallies_under
tallies_told t g tallies e =
    let z = (tree_check t).1 g in
    ap₂ tallied (sym z) (e ∙ sym (if_accepted_lem _ (in_order 11 (tally t)) (replicate 11 0) z))
