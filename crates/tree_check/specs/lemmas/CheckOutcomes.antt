-- Which number the tree check gives, as its code finds it.
-- Assumes nothing.
use Rattle.std.specs.Prelude.{◌≡◌, Bool, true, false, List, [], ◌∷◌, ℕ, zero, suc, Result, Ok, Err, ◌+◌, ◌*◌, ◌≤◌, ◌<◌, T, eqb, length}
use Rattle.std.proofs.Common.{sym, ◌∙◌, subst, arith, lt-ltb, le-ltb, eq-eqb, ne_eqb}
use Rattle.std.proofs.Math.Path.{ap}
use Rattle.std.proofs.Math.Bool.{not}
use Rattle.sums.specs.Tests.{some, every}
use Rattle.sums.specs.theorems.TestLaws.{some_ext}
use Rattle.tree_check.specs.Table.{Table, word, tips, nodes, parents, labels, parent, label}
use Rattle.tree_check.specs.lemmas.TableParts.{rest}
use Rattle.tree_check.specs.lemmas.TableParts.{parents-length, labels_length}
use Rattle.tree_check.specs.declared.refusals.TableRefusal.{TableRefusal}
use Rattle.tree_check.specs.Numbers.{table_named}
use Rattle.tree_check.specs.Refusals.{refusal}
use Rattle.tree_check.specs.theorems.RefusalLaws.{refusal_none, refusal_here, refusal_next}
use Rattle.tree_check.specs.TreeOrder.{tips_fit, nodes_fit, parent_fits, labels_fit, labels_once, misplaced, arrays_order}
use Rattle.tree_check.specs.TreeOrder.{tree_order}
use Rattle.tree_check.specs.theorems.TreeCheck.{ArraysFit, tips-iff, nodes-iff}
use Rattle.tree_check.specs.lemmas.Tally.{Tallied, tallied-children}

-- ---- the outcome of a check

-- a number as an outcome: 0 for accepted, and else the rule with that number
unfoldable pub outcome : ℕ → Result (Unit {0}) TableRefusal
outcome zero = Ok tt
outcome (suc k) = Err (table_named (suc k))

-- ---- 5, 6, 31 and 7, over the arrays ps and ls

module _ (ps ls : List ℕ) (n : ℕ) (f : ArraysFit ps ls n) where
  pub parent_broken : every (length ps) (λ i. parent_fits i (word ps i)) ≡ false
      → refusal (arrays_order n (length ps) (word ps) (word ls)) ≡ 5
  unfolding arrays_order
  parent_broken h = refusal_here 5 _ _ (ap not h)

  module _ (p : every (length ps) (λ i. parent_fits i (word ps i)) ≡ true) where
    pub label_broken : labels_fit n (length ls) (word ls) ≡ false
        → refusal (arrays_order n (length ps) (word ps) (word ls)) ≡ 6
    unfolding arrays_order
    label_broken h =
        refusal_next 5 _ _ (ap not p)
        ∙ refusal_here 6 _ _ (ap (λ (m : ℕ). not (labels_fit n m (word ls))) (sym f.same) ∙ ap not h)

    pub label_repeated : labels_fit n (length ls) (word ls) ≡ true → labels_once n (length ls) (word ls) ≡ false
        → refusal (arrays_order n (length ps) (word ps) (word ls)) ≡ 31
    unfolding arrays_order
    label_repeated l h =
        refusal_next 5 _ _ (ap not p)
        ∙ refusal_next 6 _ _ (ap (λ (m : ℕ). not (labels_fit n m (word ls))) (sym f.same) ∙ ap not l)
        ∙ refusal_here 31 _ _ (ap (λ (m : ℕ). not (labels_once n m (word ls))) (sym f.same) ∙ ap not h)

    module _ (l : labels_fit n (length ls) (word ls) ≡ true) (o : labels_once n (length ls) (word ls) ≡ true) (kids : List ℕ)
        (k : Tallied (rest 1 ps) (length (rest 1 ps)) kids) where
      last : refusal (arrays_order n (length ps) (word ps) (word ls))
          ≡ refusal ((7, some (length ls) (λ i. misplaced i (word ls i) (word kids i))) ∷ [])
      unfolding arrays_order
      last =
          refusal_next 5 _ _ (ap not p)
          ∙ refusal_next 6 _ _ (ap (λ (m : ℕ). not (labels_fit n m (word ls))) (sym f.same) ∙ ap not l)
          ∙ refusal_next 31 _ _ (ap (λ (m : ℕ). not (labels_once n m (word ls))) (sym f.same) ∙ ap not o)
          ∙ ap (λ (b : Bool). refusal ((7, b) ∷ []))
          (some_ext (length ps) _ _ (λ i m. ap (misplaced i (word ls i))
          (tallied-children ps kids i f.some k (omega (arith, f.few))))
          ∙ ap (λ (m : ℕ). some m (λ i. misplaced i (word ls i) (word kids i))) (sym f.same))

      pub node_misplaced : some (length ls) (λ i. misplaced i (word ls i) (word kids i)) ≡ true
          → refusal (arrays_order n (length ps) (word ps) (word ls)) ≡ 7
      node_misplaced h = last ∙ refusal_here 7 _ _ h

      pub arrays_kept : some (length ls) (λ i. misplaced i (word ls i) (word kids i)) ≡ false
          → refusal (arrays_order n (length ps) (word ps) (word ls)) ≡ 0
      arrays_kept h = last ∙ refusal_next 7 _ [] h ∙ refusal_none

-- ---- 1 to 7 and 31

module _ (t : Table) where
  pub too_short : length t < 2 → refusal (tree_order t) ≡ 1
  unfolding tree_order
  too_short h = refusal_here 1 _ _ (lt-ltb (length t) 2 h)

  module _ (l : 2 ≤ length t) where
    pub tips_out : tips_fit (tips t) ≡ false → refusal (tree_order t) ≡ 2
    unfolding tree_order
    tips_out h = refusal_next 1 _ _ (le-ltb (length t) 2 l) ∙ refusal_here 2 _ _ (ap not h)

    module _ (n : tips_fit (tips t) ≡ true) where
      pub nodes_out : nodes_fit (tips t) (nodes t) ≡ false → refusal (tree_order t) ≡ 3
      unfolding tree_order
      nodes_out h =
          refusal_next 1 _ _ (le-ltb (length t) 2 l) ∙ refusal_next 2 _ _ (ap not n) ∙ refusal_here 3 _ _ (ap not h)

      module _ (m : nodes_fit (tips t) (nodes t) ≡ true) where
        first_three : refusal (tree_order t) ≡ refusal ((4, not (eqb (length t) (2 + 2 * nodes t)))
            ∷ arrays_order (tips t) (nodes t) (parent t) (label t))
        unfolding tree_order
        first_three =
            refusal_next 1 _ _ (le-ltb (length t) 2 l) ∙ refusal_next 2 _ _ (ap not n) ∙ refusal_next 3 _ _ (ap not m)

        pub length_wrong : (length t ≡ 2 + 2 * nodes t → ⊥) → refusal (tree_order t) ≡ 4
        length_wrong h = first_three ∙ refusal_here 4 _ _ (ap not (ne_eqb _ _ h))

        -- the arrays decide
        pub arrays_decide : length t ≡ 2 + 2 * nodes t
            → refusal (tree_order t)
            ≡ refusal (arrays_order (tips t) (length (parents t)) (word (parents t)) (word (labels t)))
        unfolding parent label
        arrays_decide h =
            first_three
            ∙ refusal_next 4 _ _ (ap not (eq-eqb _ _ h))
            ∙ ap (λ (k : ℕ). refusal (arrays_order (tips t) k (word (parents t)) (word (labels t))))
            (sym (parents-length t h))

        pub arrays_fit : length t ≡ 2 + 2 * nodes t → ArraysFit (parents t) (labels t) (tips t)
        arrays_fit h =
            let a = (tips-iff (tips t)).0 (subst T (sym n) tt) in
            let b = (nodes-iff (tips t) (nodes t)).0 (subst T (sym m) tt) in
            record {
              same = labels_length t h ∙ sym (parents-length t h);
              some = omega (arith, a, b, parents-length t h);
              few = omega (arith, a, b, parents-length t h);
              tips_few = omega (arith, a);
            }
