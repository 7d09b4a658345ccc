-- A viewer can find out the visible labels and their topologies by asking, so the calls tell exactly these.
-- Assumes nothing.
use Rattle.levels.specs.theorems.LevelsCheck.{AreLevels}
use Rattle.std.specs.Prelude.{◌≡◌, refl, true, false, ◌↔◌, eqb}
use Rattle.std.proofs.Common.{sym, ◌∙◌, ap, subst, eq-eqb}
use Rattle.std.proofs.Math.Bool.{Bool, not}
use mathlib.Core.List.{List, [], ◌∷◌}
use Prim.Native.Nat.{ℕ, zero, suc, ◌<◌}
use native.Mathlib.Omega.{arith}
use Rattle.std.proofs.Math.Dec.{T}
use Rattle.sums.specs.Tests.{some}
use Rattle.sums.specs.theorems.TestLaws.{some-true, not-some-iff, not-not}
use Rattle.tree_check.specs.Table.{Table, word, tips}
use Rattle.tree_check.specs.Refusals.{refusal}
use Rattle.tree_check.specs.IsTree.{IsTree}
use Rattle.tree_check.specs.theorems.RefusalLaws.{accepted, refusal_here, refusal_next, if_accepted_lem}
use Rattle.asked_labels.specs.LabelOrder.{two_equal}
use Rattle.asked_labels.specs.theorems.LabelOrderLaws.{Different, different_iff}
use Rattle.trees.specs.Topology.{topology}
use Rattle.trees.specs.Topology.{topology_under}
use Rattle.levels.specs.Levels.{is_visible}
use Rattle.levels.specs.ViewTopology.{hidden_order, view_topology}
use Rattle.views.specs.theorems.SameView.{Inputs, Accepted, SeesFour, SameView, ToldTheSame}
use Rattle.views.proofs.theorems.Noninterference.{asked_alone, noninterference}
use Rattle.trees.specs.declared.quartet.TopologyAnswer.{TopologyAnswer}

-- ---- asked four times over, a visible label answers 11 and a hidden one 10

again : (x : ℕ) → two_equal (x ∷ x ∷ x ∷ x ∷ []) ≡ true
unfolding two_equal
again x =
    let xs : List ℕ = x ∷ x ∷ x ∷ x ∷ [] in
    some-true 4 (λ i. some i (λ j. eqb (word xs j) (word xs i))) 1 (omega arith)
    (some-true 1 (λ j. eqb (word xs j) (word xs 1)) 0 (omega arith) (eq-eqb x x refl))

abbrev seen_or_not : Bool → ℕ
seen_or_not true = 11
seen_or_not false = 10

four_times : (levels : List ℕ) (viewer x : ℕ)
    → refusal (hidden_order levels viewer (x ∷ x ∷ x ∷ x ∷ [])) ≡ seen_or_not (is_visible levels viewer x)
unfolding hidden_order some
four_times levels viewer x = go (is_visible levels viewer x)
  where
    go : (b : Bool) → refusal ((10, some 4 (λ i. not b)) ∷ (11, two_equal (x ∷ x ∷ x ∷ x ∷ [])) ∷ []) ≡ seen_or_not b
    go true = refusal_next 10 _ _ refl ∙ refusal_here 11 _ [] (again x)
    go false = refusal_here 10 _ _ refl

told_apart : (a b : Bool) → seen_or_not a ≡ seen_or_not b → a ≡ b
told_apart true true e = refl
told_apart true false e = absurd (omega arith)
told_apart false true e = absurd (omega arith)
told_apart false false e = refl

-- ---- four visible labels answer their topology

-- rising labels are different
rising-differ : (a b c d : ℕ) → a < b → b < c → c < d → Different (a ∷ b ∷ c ∷ d ∷ [])
rising-differ a b c d ab bc cd zero j l m = absurd (omega arith)
rising-differ a b c d ab bc cd (suc zero) zero l m = λ e. omega arith
rising-differ a b c d ab bc cd (suc zero) (suc j) l m = absurd (omega arith)
rising-differ a b c d ab bc cd (suc (suc zero)) zero l m = λ e. omega arith
rising-differ a b c d ab bc cd (suc (suc zero)) (suc zero) l m = λ e. omega arith
rising-differ a b c d ab bc cd (suc (suc zero)) (suc (suc j)) l m = absurd (omega arith)
rising-differ a b c d ab bc cd (suc (suc (suc zero))) zero l m = λ e. omega arith
rising-differ a b c d ab bc cd (suc (suc (suc zero))) (suc zero) l m = λ e. omega arith
rising-differ a b c d ab bc cd (suc (suc (suc zero))) (suc (suc zero)) l m = λ e. omega arith
rising-differ a b c d ab bc cd (suc (suc (suc zero))) (suc (suc (suc j))) l m = absurd (omega arith)
rising-differ a b c d ab bc cd (suc (suc (suc (suc i)))) j l m = absurd (omega arith)

module _ (k : Inputs) where
  four_accepted : (a b c d : ℕ) → SeesFour k a b c d → refusal (hidden_order k.levels k.viewer (a ∷ b ∷ c ∷ d ∷ [])) ≡ 0
  unfolding hidden_order
  four_accepted a b c d s =
      let xs : List ℕ = a ∷ b ∷ c ∷ d ∷ [] in
      let q : ℕ → Bool = λ i. not (is_visible k.levels k.viewer (word xs i)) in
      (accepted ((10, some 4 q) ∷ (11, two_equal xs) ∷ []) (omega arith, (omega arith, tt))).1
      ((not-some-iff 4 q).1 (all s), ((different_iff xs).1 (rising-differ a b c d s.rising.0 s.rising.1 s.rising.2), tt))
    where
      all : SeesFour k a b c d → (i : ℕ) → i < 4 → T (not (not (is_visible k.levels k.viewer (word (a ∷ b ∷ c ∷ d ∷ []) i))))
      all s zero l = (not-not (is_visible k.levels k.viewer a)).1 s.all.0
      all s (suc zero) l = (not-not (is_visible k.levels k.viewer b)).1 s.all.1
      all s (suc (suc zero)) l = (not-not (is_visible k.levels k.viewer c)).1 s.all.2
      all s (suc (suc (suc zero))) l = (not-not (is_visible k.levels k.viewer d)).1 s.all.3
      all s (suc (suc (suc (suc i)))) l = absurd (omega arith)

  module _ (t : Table) (g : IsTree t) (v : AreLevels k.levels k.viewer (tips t)) where
    told_number : (a b c d : ℕ) → (view_topology t k.levels k.viewer a b c d).refusal
        ≡ refusal (hidden_order k.levels k.viewer (a ∷ b ∷ c ∷ d ∷ []))
    unfolding view_topology topology_under
    told_number a b c d = asked_alone t g k.levels k.viewer v (a ∷ b ∷ c ∷ d ∷ [])

    told_topology : (a b c d : ℕ) → refusal (hidden_order k.levels k.viewer (a ∷ b ∷ c ∷ d ∷ [])) ≡ 0
        → (view_topology t k.levels k.viewer a b c d).topology ≡ topology t a b c d
    unfolding view_topology topology_under
    told_topology a b c d z =
        if_accepted_lem _ _ _ (asked_alone t g k.levels k.viewer v (a ∷ b ∷ c ∷ d ∷ []) ∙ z)

-- ---- both ways

module _ (k k' : Inputs) (a : Accepted k) (a' : Accepted k') where
  told_labels : ToldTheSame k k' → (x : ℕ) → is_visible k.levels k.viewer x ≡ is_visible k'.levels k'.viewer x
  told_labels h x = told_apart _ _ (
      sym (four_times k.levels k.viewer x)
      ∙ sym (told_number k k.first a.with_cells.pair.first a.levelled x x x x)
      ∙ ap (λ (r : TopologyAnswer). r.refusal) (h.topology_first x x x x)
      ∙ told_number k' k'.first a'.with_cells.pair.first a'.levelled x x x x
      ∙ four_times k'.levels k'.viewer x)

  told_tree : (t t' : Table) → IsTree t → IsTree t' → AreLevels k.levels k.viewer (tips t)
      → AreLevels k'.levels k'.viewer (tips t')
      → ((p q r s : ℕ) → view_topology t k.levels k.viewer p q r s ≡ view_topology t' k'.levels k'.viewer p q r s)
      → (p q r s : ℕ) → SeesFour k p q r s → topology t p q r s ≡ topology t' p q r s
  told_tree t t' g g' v v' h p q r s f =
      let z = four_accepted k p q r s f in
      sym (told_topology k t g v p q r s z)
      ∙ ap (λ (x : TopologyAnswer). x.topology) (h p q r s)
      ∙ told_topology k' t' g' v' p q r s
      (sym (told_number k' t' g' v' p q r s) ∙ sym (ap (λ (x : TopologyAnswer). x.refusal) (h p q r s))
      ∙ told_number k t g v p q r s ∙ z)

  later : (k : Inputs) → Accepted k → AreLevels k.levels k.viewer (tips k.second)
  later k a = subst (AreLevels k.levels k.viewer) a.with_cells.pair.same_tips a.levelled

  pub exactly_seen : SameView k k' ↔ ToldTheSame k k'
  exactly_seen = (
    λ v. noninterference k k' a a' v,
    λ h. record {
      labels = told_labels h;
      first = told_tree k.first k'.first a.with_cells.pair.first a'.with_cells.pair.first
          a.levelled a'.levelled h.topology_first;
      second = told_tree k.second k'.second a.with_cells.pair.second a'.with_cells.pair.second
          (later k a) (later k' a') h.topology_second;
    },
  )
