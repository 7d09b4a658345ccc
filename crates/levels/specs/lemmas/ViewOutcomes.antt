-- What the topology for a viewer is, as its code finds it.
-- Assumes nothing.
use Rattle.std.specs.Prelude.{◌≡◌, Bool, not, ◌≢◌, List, [], ◌∷◌, ℕ, ◌<◌}
use Rattle.std.proofs.Math.Path.{sym, ap, subst}
use Rattle.std.proofs.Common.{◌∙◌, arith}
use Rattle.std.proofs.Math.Bool.{true, false}
use Rattle.std.proofs.Math.Dec.{T}
use Rattle.sums.specs.Tests.{some}
use Rattle.sums.specs.theorems.BitLaws.{T_false}
use Rattle.sums.specs.theorems.TestLaws.{not-some-iff, not-not}
use Rattle.tree_check.specs.Table.{Table, word, tips}
use Rattle.tree_check.specs.Refusals.{refusal}
use Rattle.tree_check.specs.IsTree.{IsTree}
use Rattle.tree_check.specs.TreeOrder.{tree_order}
use Rattle.tree_check.specs.theorems.RefusalLaws.{refusal_here, refusal_next, refusal-first, refusal-kept, kept_append, if_refused}
use Rattle.tree_check.specs.theorems.TreeCheck.{tree_kept}
use Rattle.walks.specs.theorems.WalkOrderLaws.{tree_refused, tree_accepted}
use Rattle.asked_labels.specs.LabelOrder.{too_large, two_equal, asked_order, label_order}
use Rattle.asked_labels.specs.theorems.LabelOrderLaws.{below_iff}
use Rattle.trees.specs.Topology.{topology, topology_under, topology_answer}
use Rattle.trees.specs.lemmas.TopologyOutcomes.{told_under}
use Rattle.trees.specs.declared.quartet.Topology.TheVariants.{Star}
use Rattle.trees.specs.declared.quartet.TopologyAnswer.{TopologyAnswer}
use Rattle.levels.specs.Levels.{is_visible, levels_order}
use Rattle.levels.specs.ViewTopology.{levelled_order, hidden_order, view_label_order, view_topology, ViewTold}
use Rattle.levels.specs.theorems.LevelsCheck.{AreLevels, visible-iff, levels_kept}

-- the answer, and what it tells
abbrev pub Viewed : Table → List ℕ → ℕ → ℕ → ℕ → ℕ → ℕ → TopologyAnswer → Type 0
Viewed t levels viewer a b c d r = (r ≡ view_topology t levels viewer a b c d) × ViewTold t levels viewer a b c d r

module _ (t : Table) (levels : List ℕ) (viewer a b c d : ℕ) where
  abbrev xs : List ℕ
  xs = a ∷ b ∷ c ∷ d ∷ []

  -- the number that is told is that of the order
  answered : (k : ℕ) → refusal (view_label_order t levels viewer xs) ≡ k → (k ≡ 0 → IsTree t)
      → (r : TopologyAnswer) → r ≡ topology_under k t a b c d → Viewed t levels viewer a b c d r
  unfolding view_topology
  answered k e g r q =
      let n = refusal (view_label_order t levels viewer xs) in
      let p : r ≡ topology_under n t a b c d = q ∙ ap (λ (j : ℕ). topology_under j t a b c d) (sym e) in
      (p, subst (ViewTold t levels viewer a b c d) (sym p) (told_under t a b c d n (λ z. g (sym e ∙ z))))

  star : (k : ℕ) → k ≢ 0 → record { refusal = k; topology = Star } ≡ topology_under k t a b c d
  unfolding topology_under
  star k d' = ap (λ x. record { refusal = k; topology = x }) (sym (if_refused k (topology t a b c d) Star d'))

  refused : (k : ℕ) → refusal (view_label_order t levels viewer xs) ≡ k → k ≢ 0
      → Viewed t levels viewer a b c d (record { refusal = k; topology = Star })
  refused k e n = answered k e (λ z. absurd (n z)) _ (star k n)

  -- the table is refused
  pub tree_away : (k : ℕ) → refusal (tree_order t) ≡ k → k ≢ 0
      → Viewed t levels viewer a b c d (record { refusal = k; topology = Star })
  tree_away k e n = refused k (unfold view_label_order levelled_order in
      refusal-first _ _ (λ z. n (sym q ∙ z)) ∙ q) n
    where
      q : refusal (levelled_order t levels viewer) ≡ k
      q = unfold levelled_order in tree_refused t _ k e n

  module _ (g : IsTree t) where
    levelled : refusal (levelled_order t levels viewer) ≡ refusal (levels_order levels viewer (tips t))
    unfolding levelled_order
    levelled = tree_accepted t _ g

    -- the levels are
    pub levels_away : (k : ℕ) → k ≡ refusal (levels_order levels viewer (tips t)) → k ≢ 0
        → Viewed t levels viewer a b c d (record { refusal = k; topology = Star })
    levels_away k e n = refused k (unfold view_label_order in
        refusal-first (levelled_order t levels viewer) _ (λ z. n (e ∙ sym levelled ∙ z)) ∙ levelled ∙ sym e) n

    module _ (v : AreLevels levels viewer (tips t)) (h : Bool)
        (eh : h ≡ some 4 (λ i. not (is_visible levels viewer (word (a ∷ b ∷ c ∷ d ∷ []) i)))) where
      past : refusal (view_label_order t levels viewer xs) ≡ refusal (hidden_order levels viewer xs)
      unfolding view_label_order levelled_order
      past = refusal-kept (levelled_order t levels viewer) _
          ((kept_append (tree_order t) (levels_order levels viewer (tips t))).1
          (tree_kept t g, (levels_kept levels viewer (tips t)).1 v))

      -- a label is hidden
      pub hidden_away : h ≡ true → Viewed t levels viewer a b c d (record { refusal = 10; topology = Star })
      hidden_away z = refused 10 (past ∙ (unfold hidden_order in refusal_here 10 _ _ (sym eh ∙ z))) (λ e. omega arith)

      -- all are visible
      pub topology_passed : h ≡ false → (r : TopologyAnswer) → r ≡ topology_answer t a b c d → Viewed t levels viewer a b c d r
      topology_passed z r q = answered (refusal (label_order t xs)) number (λ e. g) r (unfold topology_answer in q)
        where
          no-T : (p : Bool) → T (not p) → T p → ⊥
          no-T true q m = q
          no-T false q m = m

          T_of : (p : Bool) → p ≡ false → T (not p)
          T_of p q = subst (λ (y : Bool). T (not y)) (sym q) tt

          each : (i : ℕ) → i < 4 → word (a ∷ b ∷ c ∷ d ∷ []) i < tips t
          each i l =
              let s = (not-some-iff 4 (λ i. not (is_visible levels viewer (word (a ∷ b ∷ c ∷ d ∷ []) i)))).0 (T_of _ (sym eh ∙ z)) i l in
              let w = (visible-iff levels viewer (word (a ∷ b ∷ c ∷ d ∷ []) i)).0 ((not-not (is_visible levels viewer (word (a ∷ b ∷ c ∷ d ∷ []) i))).0 s) in
              omega (arith, w.0, v.long)

          below : too_large (tips t) xs ≡ false
          below = T_false (too_large (tips t) xs) (no-T (too_large (tips t) xs) ((below_iff (tips t) xs).1 each))

          hidden-next : refusal (hidden_order levels viewer xs) ≡ refusal ((11, two_equal xs) ∷ [])
          hidden-next = unfold hidden_order in refusal_next 10 _ _ (sym eh ∙ z)

          asked-next : refusal (label_order t xs) ≡ refusal ((11, two_equal xs) ∷ [])
          asked-next = unfold label_order asked_order in tree_accepted t _ g ∙ refusal_next 10 _ _ below

          number : refusal (view_label_order t levels viewer xs) ≡ refusal (label_order t xs)
          number = past ∙ hidden-next ∙ sym asked-next
