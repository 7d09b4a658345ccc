-- What the check of a list answers, as code finds it.
-- Assumes nothing.
use Rattle.std.proofs.Math.Path.{◌≡◌, refl, sym, ap}
use Rattle.std.proofs.Common.{◌∙◌, ap₂, subst, arith, lt-ltb, le-ltb}
use Rattle.std.specs.Prelude.{Bool, true, false, ◌&&◌, ◌≢◌, ℕ, ◌+◌, ◌-◌, ◌≤◌, ◌<◌, T, leb, length, take, drop, replicate}
use Rattle.std.proofs.Math.Bool.{not}
use mathlib.Core.List.{List}
use Rattle.sums.specs.Tests.{some}
use Rattle.sums.specs.Lists.{in_front}
use Rattle.sums.specs.theorems.TestLaws.{and-iff, le_iff}
use Rattle.tree_check.specs.Table.{word, tips}
use Rattle.tree_check.specs.Refusals.{refusal}
use Rattle.tree_check.specs.theorems.RefusalLaws.{refusal_none, refusal_here, refusal_next, if_accepted_lem, if_refused}
use Rattle.tree_lists.specs.declared.checked.TreeList.{TreeList}
use Rattle.tree_lists.specs.TreeLists.{trees_most, trees_of, start_of, tree_at, wrong_tree, edges_at, largest, list_order}
use Rattle.tree_lists.specs.CheckedList.{refused_list, checked_list}
use Rattle.tree_lists.proofs.theorems.ListCheck.{has_word}
use Rattle.tree_lists.specs.lemmas.Starts.{TableStarts}
use Rattle.tree_lists.proofs.lemmas.Starts.{lent_tree, starts_told}

module _ (list : List ℕ) where
  turned_away : (k : ℕ) → refusal (list_order list) ≡ k → k ≢ 0 → (r : TreeList) → r ≡ refused_list k → r ≡ checked_list list
  unfolding checked_list
  turned_away k e d r h = h ∙ ap refused_list (sym e) ∙ sym (if_refused _ _ _ (λ z. d (sym e ∙ z)))

  -- word 0 is the number of trees
  module _ (x k : ℕ) (ex : x ≡ tips list) (ek : k ≡ x) (b : Bool) (h : b ≡ (leb 2 k && leb k trees_most)) where
    trees_told : k ≡ trees_of list
    unfolding trees_of tips
    trees_told = ek ∙ ex

    judged : (leb 2 (trees_of list) && leb (trees_of list) trees_most) ≡ b
    judged = ap (λ (j : ℕ). leb 2 j && leb j trees_most) (sym trees_told) ∙ sym h

    -- 38
    pub wrong_number : b ≡ false → (r : TreeList) → r ≡ refused_list 38 → r ≡ checked_list list
    unfolding list_order
    wrong_number f r q = turned_away 38 (refusal_here 38 _ _ (ap not (judged ∙ f))) (λ z. omega (arith, z)) r q

    module _ (f : b ≡ true) where
      fits : not (leb 2 (trees_of list) && leb (trees_of list) trees_most) ≡ false
      fits = ap not (judged ∙ f)

      pub number_right : (1 ≤ length list) × (2 ≤ k) × (k ≤ trees_most)
      number_right =
          let t = (and-iff (leb 2 k) (leb k trees_most)).0 (subst T (sym (sym h ∙ f)) tt) in
          let two : 2 ≤ k = (le_iff 2 k).0 t.0 in
          (has_word list (omega (arith, trees_told, two)), two, (le_iff k trees_most).0 t.1)

      -- n is the first tree's
      module _ (starts : List ℕ) (s : TableStarts list k starts) (n : ℕ)
          (en : n ≡ tips (take (word starts 1 - word starts 0) (drop (word starts 0) list))) (w : Bool) (ew : w ≡ some k (wrong_tree list n)) where
        first-tips : n ≡ tips (tree_at list 0)
        first-tips = en ∙ ap tips (lent_tree list number_right.0 k starts s 0 (omega (arith, number_right.1)))

        wrong_told : some (trees_of list) (wrong_tree list (tips (tree_at list 0))) ≡ w
        wrong_told = ap₂ (λ (j m : ℕ). some j (wrong_tree list m)) (sym trees_told) (sym first-tips) ∙ sym ew

        -- 39: a tree is wrong
        pub wrong_trees : w ≡ true → (r : TreeList) → r ≡ refused_list 39 → r ≡ checked_list list
        unfolding list_order
        wrong_trees t r q = turned_away 39 (refusal_next 38 _ _ fits ∙ refusal_here 39 _ _ (wrong_told ∙ t)) (λ z. omega (arith, z)) r q

        module _ (ok : w ≡ false) where
          end_told : word starts k ≡ start_of list (trees_of list)
          end_told = s.at k (omega arith) ∙ ap (start_of list) trees_told

          -- 39: words are left over
          pub left_over : word starts k < length list → (r : TreeList) → r ≡ refused_list 39 → r ≡ checked_list list
          unfolding list_order
          left_over l r q =
              turned_away 39 (refusal_next 38 _ _ fits ∙ refusal_next 39 _ _ (wrong_told ∙ ok)
              ∙ refusal_here 39 _ _ (lt-ltb (start_of list (trees_of list)) (length list) (omega (arith, l, end_told))))
              (λ z. omega (arith, z)) r q

          -- no word is left
          module _ (whole : length list ≤ word starts k) where
            accepted_list : refusal (list_order list) ≡ 0
            unfolding list_order
            accepted_list =
                refusal_next 38 _ _ fits ∙ refusal_next 39 _ _ (wrong_told ∙ ok)
                ∙ refusal_next 39 _ _ (le-ltb (start_of list (trees_of list)) (length list) (omega (arith, whole, end_told))) ∙ refusal_none

            starts_are : starts ≡ in_front (trees_of list + 1) (start_of list) (replicate 17 0)
            starts_are = starts_told list k number_right.2 starts s
                ∙ ap (λ (j : ℕ). in_front (j + 1) (start_of list) (replicate 17 0)) trees_told

            pub measured : (m edges : ℕ) → m ≡ n → edges ≡ largest k (edges_at list)
                → record { refusal = 0; trees = k; tips = m; edges = edges; starts = starts } ≡ checked_list list
            unfolding checked_list
            measured m edges em ee =
                let q : edges ≡ largest (trees_of list) (edges_at list) = ee ∙ ap (λ (j : ℕ). largest j (edges_at list)) trees_told in
                same trees_told (em ∙ first-tips) q starts_are ∙ sym (if_accepted_lem _ _ _ accepted_list)
              where
                same : {a a' b b' c c' : ℕ} {d d' : List ℕ} → a ≡ a' → b ≡ b' → c ≡ c' → d ≡ d'
                    → ◌≡◌ {A = TreeList} (record { refusal = 0; trees = a; tips = b; edges = c; starts = d })
                    (record { refusal = 0; trees = a'; tips = b'; edges = c'; starts = d' })
                same e f g h = rw (e, f, g, h) refl
