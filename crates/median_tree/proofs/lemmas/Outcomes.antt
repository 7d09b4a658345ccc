-- What the call for the median tree answers, as code finds it.
-- Assumes nothing.
use Rattle.std.specs.Prelude.{◌≡◌, ◌≢◌, List, ℕ, ◌*◌, ◌%◌, ◌≤◌, ◌<◌, length}
use Rattle.std.proofs.Math.Path.{sym, ap, ap₂}
use Rattle.std.proofs.Common.{◌∙◌, subst, mod-eq_of_lt}
use native.Mathlib.Omega.{arith}
use Rattle.sums.specs.Sum.{sum}
use Rattle.tree_check.specs.Table.{word}
use Rattle.tree_check.specs.Refusals.{refusal}
use Rattle.tree_check.specs.theorems.RefusalLaws.{if_accepted_lem, if_refused}
use Rattle.tree_lists.specs.declared.checked.TreeList.{TreeList}
use Rattle.tree_lists.specs.TreeLists.{trees_most, trees_of, edges_at, largest, list_order}
use Rattle.tree_lists.specs.CheckedList.{measured_list, checked_list}
use Rattle.tree_lists.proofs.theorems.ListLaws.{largest-le}
use Rattle.tree_lists.specs.theorems.ListCheck.{IsTreeList}
use Rattle.tree_lists.proofs.theorems.ListCheck.{has_word, list_check, number_told, list_told}
use Rattle.tree_lists.proofs.lemmas.Starts.{starts_known}
use Rattle.pair_check.specs.Clearing.{zeroed}
use Rattle.median_tree.specs.declared.median.NearestAnswer.{NearestAnswer}
use Rattle.median_tree.specs.Least.{first_least}
use Rattle.median_tree.specs.Nearest.{distance_of, sum_to, list_cells, nearest_order, refused_nearest, nearest_answer, after_nearest}
use Rattle.median_tree.proofs.theorems.NearestLaws.{list_away, few_cells, cells_enough, nearest_told}
use Rattle.median_tree.specs.lemmas.SameCells.{SameFrom}
use Rattle.median_tree.proofs.lemmas.SameCells.{cleared_after}
use Rattle.median_tree.specs.lemmas.Distances.{ListReady}
use Rattle.median_tree.specs.lemmas.RowSums.{Sums}
use Rattle.median_tree.proofs.lemmas.RowSums.{least_alike}
use Rattle.median_tree.specs.lemmas.Outcomes.{NearestAnswered}

module _ (list work : List ℕ) where
  turned_away : (k : ℕ) → refusal (nearest_order list (length work)) ≡ k → k ≢ 0 → (r : NearestAnswer) → r ≡ refused_nearest k
      → NearestAnswered list work r work
  unfolding nearest_answer after_nearest
  turned_away k e d r h = (
    h ∙ ap refused_nearest (sym e) ∙ sym (if_refused _ _ _ (λ z. d (sym e ∙ z))),
    sym (if_refused _ _ _ (λ z. d (sym e ∙ z))),
  )

  module _ (c : TreeList) (ec : c ≡ checked_list list) where
    number : c.refusal ≡ refusal (list_order list)
    number = ap (λ (x : TreeList). x.refusal) ec ∙ number_told list

    -- 38 and 39
    pub refused_list_lem : c.refusal ≢ 0 → (r : NearestAnswer) → r ≡ refused_nearest c.refusal → NearestAnswered list work r work
    refused_list_lem d r h =
        turned_away c.refusal (list_away list (length work) (λ z. d (number ∙ z)) ∙ sym number) d r h

    module _ (z : c.refusal ≡ 0) where
      pub list_is : IsTreeList list
      list_is = (list_check list).0 (sym number ∙ z)

      told : c ≡ measured_list list
      told = ec ∙ list_told list list_is

      pub trees_told : c.trees ≡ trees_of list
      trees_told = ap (λ (x : TreeList). x.trees) told

      pub trees_few : (1 ≤ c.trees) × (c.trees ≤ trees_most)
      trees_few = (omega (arith, trees_told, list_is.some_trees), omega (arith, trees_told, list_is.few_trees))

      edges_told : c.edges ≡ largest (trees_of list) (edges_at list)
      edges_told = ap (λ (x : TreeList). x.edges) told

      pub edges_few : c.edges ≤ 1023
      unfolding edges_at
      edges_few = omega (
        arith,
        edges_told,
        largest-le (trees_of list) (edges_at list) 1023 (λ i l.
            let g = list_is.tree i l in unfold edges_at in omega (arith, g.tips_range.1, g.nodes_range.1)),
      )

      pub cells_told : c.edges * c.edges ≡ list_cells list
      unfolding list_cells
      cells_told = ap₂ (λ (x y : ℕ). x * y) edges_told edges_told

      -- 9
      pub short_work : length work < c.edges * c.edges → (r : NearestAnswer) → r ≡ refused_nearest 9 → NearestAnswered list work r work
      short_work l r h =
          turned_away 9 (few_cells list (length work) list_is (subst (λ (x : ℕ). length work < x) cells_told l)) (λ e. omega (arith, e)) r h

      module _ (room : c.edges * c.edges ≤ length work) where
        enough : list_cells list ≤ length work
        enough = subst (λ (x : ℕ). x ≤ length work) cells_told room

        pub ready : ListReady list c.starts c.tips (length work)
        ready = record {
          list_is = list_is;
          has_word = has_word list list_is.some_trees;
          starts_are = starts_known list (trees_of list) list_is.few_trees c.starts (ap (λ (x : TreeList). x.starts) told);
          tips_is = ap (λ (x : TreeList). x.tips) told;
          room = enough;
        }

        -- told, and cleared
        pub nearest_found : (sums between after : List ℕ) → Sums (distance_of list) c.trees 0 sums → SameFrom (list_cells list) work between
            → after ≡ zeroed (c.edges * c.edges) between → (p q : ℕ) → p ≡ first_least (word sums) c.trees → p < c.trees
            → q ≡ p % 65536 → NearestAnswered list work (record { refusal = 0; position = q; sum = word sums p }) after
        nearest_found sums between after h same cleared p q ep lp eq = (answer, cells)
          where
            at : (a : ℕ) → a < c.trees → word sums a ≡ sum_to list a
            at a l = unfold sum_to in (h.not_yet a (omega arith) l ∙ ap (λ (j : ℕ). sum j (distance_of list a)) trees_told)

            place : p ≡ first_least (sum_to list) (trees_of list)
            place = ep ∙ least_alike (word sums) (sum_to list) c.trees at ∙ ap (first_least (sum_to list)) trees_told

            small : q ≡ p
            small = eq ∙ mod-eq_of_lt (omega (arith, lp, trees_few.1))

            answer : record { refusal = 0; position = q; sum = word sums p } ≡ nearest_answer list (length work)
            answer =
                let mk : ℕ → ℕ → NearestAnswer = λ x y. record { refusal = 0; position = x; sum = y } in
                ap₂ mk (small ∙ place) (at p lp ∙ ap (sum_to list) place)
                ∙ sym (nearest_told list (length work) list_is enough)

            cells : after ≡ after_nearest list work
            cells = unfold after_nearest in
                (cleared_after (list_cells list) work between after enough same
                (cleared ∙ ap (λ (x : ℕ). zeroed x between) cells_told)
                ∙ sym (if_accepted_lem _ _ _ (cells_enough list (length work) list_is enough)))
