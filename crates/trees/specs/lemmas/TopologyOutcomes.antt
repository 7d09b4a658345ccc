-- What the topology's answer is, as its code finds it.
-- Assumes nothing.
use Rattle.std.specs.Prelude.{◌≡◌, List, [], ◌∷◌, ◌≢◌}
use Rattle.std.proofs.Math.Path.{refl, sym, ap}
use Rattle.std.proofs.Common.{◌∙◌, subst, arith}
use Prim.Native.Nat.{ℕ, zero, suc, ◌<◌}
use Rattle.trees.specs.declared.quartet.Topology.{Topology}
use Rattle.trees.specs.declared.quartet.Topology.TheVariants.{Star}
use Rattle.trees.specs.declared.quartet.TopologyAnswer.{TopologyAnswer}
use Rattle.tree_check.specs.Table.{Table, word, tips, nodes, parents, labels, parent, label, node_of, beyond}
use Rattle.tree_check.specs.lemmas.TableParts.{parents-length, labels_length}
use Rattle.tree_check.specs.Refusals.{refusal, if_accepted}
use Rattle.tree_check.specs.theorems.RefusalLaws.{if_accepted_lem, if_refused}
use Rattle.tree_check.specs.IsTree.{IsTree}
use Rattle.tree_check.specs.TreeOrder.{tree_order}
use Rattle.walks.specs.theorems.WalkOrderLaws.{tree_refused, tree_accepted}
use Rattle.asked_labels.specs.LabelOrder.{asked_order, label_order}
use Rattle.trees.specs.Topology.{topology, topology_under, topology_answer, butterfly_of, partner_of, TopologyTold, Told}
use Rattle.asked_labels.specs.theorems.LabelOrderLaws.{label_check}
use Rattle.trees.specs.theorems.TopologyLaws.{star_iff, parted-butterfly, parted_with_c, parted_with_d}
use Rattle.trees.specs.lemmas.Sides.{sides, pairing, pairing-le, SidesAre, Shown, topology_shown}
use Rattle.trees.specs.lemmas.ShownPairings.{shown_first, shown_second, shown_third, shown_none}

abbrev told : ℕ → Topology → TopologyAnswer
told k x = record { refusal = k; topology = x }

module _ (t : Table) (a b c d : ℕ) where
  answered : (k : ℕ) (x : Topology) → refusal (label_order t (a ∷ b ∷ c ∷ d ∷ [])) ≡ k
      → if_accepted k (topology t a b c d) Star ≡ x → topology_answer t a b c d ≡ told k x
  unfolding topology_answer topology_under
  answered k x e f = ap (λ (j : ℕ). told j (if_accepted j (topology t a b c d) Star)) e ∙ ap (told k) f

  -- the table is refused
  pub topology_refused : (k : ℕ) → refusal (tree_order t) ≡ k → k ≢ 0
      → topology_answer t a b c d ≡ record { refusal = k; topology = Star }
  unfolding label_order
  topology_refused k e n =
      answered k Star (tree_refused t _ k e n) (if_refused k (topology t a b c d) Star n)

  module _ (g : IsTree t) where
    -- the labels are refused
    pub topology_asked_refused : (k : ℕ) → refusal (asked_order (tips t) (a ∷ b ∷ c ∷ d ∷ [])) ≡ k → k ≢ 0
        → topology_answer t a b c d ≡ record { refusal = k; topology = Star }
    unfolding label_order
    topology_asked_refused k e n =
        answered k Star (tree_accepted t _ g ∙ e) (if_refused k (topology t a b c d) Star n)

    -- ---- found

    module _ (cells : List ℕ) (h : SidesAre (parents t) (labels t) a b c d cells) where
      sides_are : (v : ℕ) → v < nodes t → word cells v ≡ sides t v a b c d
      unfolding sides beyond node_of parent label
      sides_are v l =
          rw (labels_length t g.words) at (h.sides_is v (omega (arith, parents-length t g.words)))

      pub shown_at : (i : ℕ) → i < nodes t → pairing (sides t i a b c d) ≡ pairing (word cells i)
      shown_at i l = ap pairing (sym (sides_are i l))

      -- the pairing that the first edge shows which shows one names the topology
      pub topology_shown_lem : (k : ℕ) → Shown cells (nodes t) k → topology_shown k a b c d ≡ topology t a b c d
      unfolding topology_shown
      topology_shown_lem zero s = sym (shown_none t a b c d (λ i l m. shown_at i m ∙ s.none refl i l m))
      topology_shown_lem (suc zero) s =
          let r = s.shown (λ e. omega arith) in
          sym (shown_first t g a b c d r.0 r.1 r.2 (shown_at r.0 r.2 ∙ r.3))
      topology_shown_lem (suc (suc zero)) s =
          let r = s.shown (λ e. omega arith) in
          sym (shown_second t g a b c d r.0 r.1 r.2 (shown_at r.0 r.2 ∙ r.3))
      topology_shown_lem (suc (suc (suc zero))) s =
          let r = s.shown (λ e. omega arith) in
          sym (shown_third t g a b c d r.0 r.1 r.2 (shown_at r.0 r.2 ∙ r.3))
      topology_shown_lem (suc (suc (suc (suc j)))) s =
          let r = s.shown (λ e. omega arith) in
          absurd (omega (arith, r.3, pairing-le (word cells r.0)))

      -- the labels are accepted, and the pairing k is shown
      pub topology_found : refusal (asked_order (tips t) (a ∷ b ∷ c ∷ d ∷ [])) ≡ 0
          → (k : ℕ) → Shown cells (nodes t) k
          → topology_answer t a b c d ≡ record { refusal = 0; topology = topology_shown k a b c d }
      unfolding label_order
      topology_found e k s =
          answered 0 (topology_shown k a b c d) (tree_accepted t _ g ∙ e)
          (if_accepted_lem 0 (topology t a b c d) Star refl ∙ sym (topology_shown_lem k s))

-- ---- what the answer tells

module _ (t : Table) (a b c d : ℕ) where
  told_refused : (k : ℕ) (x : Topology) → k ≢ 0
      → (butterfly_of (if_accepted k x Star) ≡ 0) × (partner_of (if_accepted k x Star) ≡ 0)
  told_refused k x n = rw (if_refused k x Star n) (refl, refl)

  told_as : (k p q : ℕ) (x y : Topology) → k ≡ 0 → x ≡ y → butterfly_of y ≡ p → partner_of y ≡ q
      → (butterfly_of (if_accepted k x Star) ≡ p) × (partner_of (if_accepted k x Star) ≡ q)
  told_as k p q x y z e f g = rw (if_accepted_lem k x Star z, e) (f, g)

  -- whatever the order that the number is of, which accepts trees alone
  pub told_under : (number : ℕ) → (number ≡ 0 → IsTree t) → TopologyTold number t a b c d (topology_under number t a b c d)
  unfolding topology_under
  told_under number tree = record {
    number_told = refl;
    refused = λ n. told_refused number (topology t a b c d) n;
    with_b = λ z h. told_as number 1 _ _ _ z (parted-butterfly t a b c d h) refl refl;
    with_c = λ z h. told_as number 1 _ _ _ z (parted_with_c t (tree z) a b c d h) refl refl;
    with_d = λ z h. told_as number 1 _ _ _ z (parted_with_d t (tree z) a b c d h) refl refl;
    star = λ z nb nc nd. told_as number 0 0 _ _ z ((star_iff t a b c d).1 (nb, nc, nd)) refl refl;
  }

  own_told : Told t a b c d (topology_answer t a b c d)
  unfolding topology_answer
  own_told = told_under (refusal (label_order t (a ∷ b ∷ c ∷ d ∷ []))) (λ z. ((label_check t (a ∷ b ∷ c ∷ d ∷ [])).0 z).0)

  -- an answer, and what it tells
  pub topology_told : (r : TopologyAnswer) → r ≡ topology_answer t a b c d
      → (r ≡ topology_answer t a b c d) × Told t a b c d r
  topology_told r e = (e, subst (Told t a b c d) (sym e) own_told)
