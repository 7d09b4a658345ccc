-- The median tree: no tree of the list has a smaller sum, every earlier one has a larger, and the sums fit.
-- Assumes nothing.
use Rattle.std.specs.Prelude.{◌≡◌, ◌≢◌, ◌↔◌, List, [], ◌∷◌, ltb}
use Rattle.std.proofs.Math.Path.{refl, sym, ap}
use Rattle.std.proofs.Common.{◌∙◌, lt-ltb, le-ltb}
use Prim.Native.Nat.{ℕ, zero, suc, ◌≤◌, ◌<◌}
use Rattle.std.proofs.Math.Decide.{dec_lt, ℕ_discrete}
use native.Mathlib.Omega.{arith}
use Rattle.sums.specs.Sum.{sum}
use Rattle.sums.specs.theorems.SumLaws.{sum_mono, sum_const, sum_none, sum_ext}
use Rattle.shapes.proofs.theorems.SameSplits.{same_splits-refl}
use Rattle.tree_check.specs.Table.{tips}
use Rattle.tree_check.specs.Refusals.{refusal, if_accepted}
use Rattle.tree_check.specs.theorems.RefusalLaws.{refusal_none, refusal_here, refusal_next, refusal-first, refusal-kept, if_accepted_lem}
use Rattle.tree_lists.specs.TreeLists.{trees_of, tree_at, list_order}
use Rattle.tree_lists.specs.theorems.ListCheck.{IsTreeList}
use Rattle.tree_lists.proofs.theorems.ListCheck.{list-kept, list_check}
use Rattle.counting.specs.Labels.{all}
use Rattle.counting.specs.declared.Case.TheVariants.{B, C, D}
use Rattle.counting.specs.Cases.{distance}
use Rattle.counting.proofs.theorems.FewLabels.{few_labels}
use Rattle.counting.proofs.theorems.LabelLaws.{all_of}
use Rattle.counting.specs.theorems.LabelsAlone.{AloneAt}
use Rattle.counting.proofs.theorems.TipLabels.{alone_at}
use Rattle.counting.specs.theorems.QuartetTheorem.{QuartetTheorem}
use Rattle.counting.proofs.theorems.QuartetTheorem.{quartet_theorem}
use Rattle.metric.proofs.theorems.TreesExchanged.{trees_exchanged}
use Rattle.median_tree.specs.Least.{first_least}
use Rattle.median_tree.specs.Nearest.{distance_of, sum_to, list_cells, nearest_order, nearest_of, refused_nearest, nearest_answer}
use Rattle.median_tree.specs.theorems.LeastLaws.{IsFirstLeast}
use Rattle.median_tree.proofs.theorems.LeastLaws.{is_first_least, least_only}
use Rattle.median_tree.specs.theorems.NearestLaws.{SameLists}

-- ---- distances and sums

-- from either of two trees the distance is the same
pub apart_either : (list : List ℕ) (i j : ℕ) → distance_of list i j ≡ distance_of list j i
unfolding distance_of
apart_either list i j = (trees_exchanged (all (tips (tree_at list 0))) (tree_at list j) (tree_at list i)).distance_stays

module _ (list : List ℕ) (s : IsTreeList list) where
  theorem : (i j : ℕ) → i < trees_of list → j < trees_of list
      → QuartetTheorem (all (tips (tree_at list 0))) (tree_at list i) (tree_at list j)
  theorem i j li lj = quartet_theorem (all (tips (tree_at list 0))) (tree_at list i) (tree_at list j) (s.tree i li) (s.tree j lj)
      (s.same_tips i li ∙ sym (s.same_tips j lj)) (all_of (tips (tree_at list 0)) (tips (tree_at list i)) (s.same_tips i li))

  -- a tree is at distance 0 from itself
  pub apart_self : (i : ℕ) → i < trees_of list → distance_of list i i ≡ 0
  unfolding distance_of
  apart_self i l =
      let q = theorem i i l l in
      sym q.distance_counts ∙ q.distance_zero.1 (same_splits-refl _ _ _)

  pub apart_most : (i j : ℕ) → i < trees_of list → j < trees_of list → distance_of list i j ≤ 174792640
  unfolding distance_of
  apart_most i j li lj =
      let q = theorem i j li lj in
      omega (arith, q.total, q.all_most, q.B_counts, q.C_counts, q.D_counts)

  -- 16 · 174792640
  pub sum_most : (i : ℕ) → i < trees_of list → sum_to list i ≤ 2796682240
  unfolding sum_to
  sum_most i l = omega (
    arith,
    sum_mono (trees_of list) (distance_of list i) (λ j. 174792640) (λ j m. apart_most i j l m),
    sum_const (trees_of list) 174792640,
    s.few_trees,
  )

  least_sum : IsFirstLeast (sum_to list) (trees_of list) (first_least (sum_to list) (trees_of list))
  least_sum = go (trees_of list) s.some_trees
    where
      go : (k : ℕ) → 2 ≤ k → IsFirstLeast (sum_to list) k (first_least (sum_to list) k)
      go zero l = absurd (omega arith)
      go (suc k) l = is_first_least (sum_to list) k

  -- with fewer than four tips every sum is 0
  pub few_tips : tips (tree_at list 0) < 4 → (i : ℕ) → i < trees_of list → sum_to list i ≡ 0
  unfolding sum_to
  few_tips few i l = sum_none (trees_of list) (distance_of list i) (λ j m. unfold distance_of in
      (let none = few_labels (all (tips (tree_at list 0))) (tree_at list i) (tree_at list j) (s.tree i l) (s.tree j m)
      (s.same_tips i l ∙ sym (s.same_tips j m)) (all_of (tips (tree_at list 0)) (tips (tree_at list i)) (s.same_tips i l)) few in
      omega (arith, none.counts B, none.counts C, none.counts D)))

-- ---- trees with the same splits

module _ (list other : List ℕ) (s : IsTreeList list) (o : IsTreeList other) (h : SameLists list other) where
  abbrev n : ℕ
  n = tips (tree_at list 0)

  there : (i : ℕ) → i < trees_of list → i < trees_of other
  there i l = omega (arith, l, h.trees)

  same_n : (i : ℕ) → i < trees_of list → tips (tree_at list i) ≡ tips (tree_at other i)
  same_n i l = s.same_tips i l ∙ h.same_tips ∙ sym (o.same_tips i (there i l))

  alone : (i : ℕ) (l : i < trees_of list) → AloneAt (all n) (tree_at list i) (tree_at other i)
  alone i l = alone_at (all n) (tree_at list i) (tree_at other i) (s.tree i l) (o.tree i (there i l)) (same_n i l)
      (all_of n (tips (tree_at list i)) (s.same_tips i l)) (h.splits i l)

  same_apart : (i j : ℕ) → i < trees_of list → j < trees_of list → distance_of list i j ≡ distance_of other i j
  unfolding distance_of
  same_apart i j l m =
      ((alone i l).as_first (tree_at list j) (s.tree j m) (s.same_tips i l ∙ sym (s.same_tips j m))).distance
      ∙ ((alone j m).as_second (tree_at other i) (o.tree i (there i l)) (sym (same_n i l) ∙ s.same_tips i l ∙ sym (s.same_tips j m))).distance
      ∙ ap (λ (k : ℕ). distance (all k) (tree_at other i) (tree_at other j)) h.same_tips

  -- the sums are the same: the labels of tips alone count
  pub same_sums : (i : ℕ) → i < trees_of list → sum_to list i ≡ sum_to other i
  unfolding sum_to
  same_sums i l =
      sum_ext (trees_of list) (distance_of list i) (distance_of other i) (λ j m. same_apart i j l m)
      ∙ ap (λ (k : ℕ). sum k (distance_of other i)) h.trees

-- ---- the order

module _ (list : List ℕ) (cells : ℕ) where
  pub list_away : refusal (list_order list) ≢ 0 → refusal (nearest_order list cells) ≡ refusal (list_order list)
  unfolding nearest_order
  list_away d = refusal-first (list_order list) _ d

  then_cells : IsTreeList list → refusal (nearest_order list cells) ≡ refusal ((9, ltb cells (list_cells list)) ∷ [])
  unfolding nearest_order
  then_cells s = refusal-kept (list_order list) _ ((list-kept list).1 s)

  pub few_cells : IsTreeList list → cells < list_cells list → refusal (nearest_order list cells) ≡ 9
  few_cells s l = then_cells s ∙ refusal_here 9 _ [] (lt-ltb cells (list_cells list) l)

  pub cells_enough : IsTreeList list → list_cells list ≤ cells → refusal (nearest_order list cells) ≡ 0
  cells_enough s l = then_cells s ∙ refusal_next 9 _ [] (le-ltb cells (list_cells list) l) ∙ refusal_none

  -- accepted exactly if the list is one of 2 to 16 tree tables with the same n, and there are cells for the largest against itself
  pub nearest_check : (refusal (nearest_order list cells) ≡ 0) ↔ (IsTreeList list × (list_cells list ≤ cells))
  nearest_check = (
    λ e. elim (ℕ_discrete (refusal (list_order list)) 0) [
      | yes z ↦ (let s = (list_check list).0 z in (s, enough s e))
      | no d ↦ absurd (d (sym (list_away d) ∙ e))
    ],
    λ h. cells_enough h.0 h.1,
  )
    where
      enough : IsTreeList list → refusal (nearest_order list cells) ≡ 0 → list_cells list ≤ cells
      enough s e = elim (dec_lt cells (list_cells list)) [
        | yes l ↦ absurd (omega (arith, few_cells s l, e))
        | no n ↦ omega arith
      ]

  pub nearest_told : IsTreeList list → list_cells list ≤ cells → nearest_answer list cells ≡ nearest_of list
  unfolding nearest_answer
  nearest_told s l = if_accepted_lem _ _ _ (cells_enough s l)

  -- ---- the tree that is told

  own_number : (k : ℕ) → (if_accepted k (nearest_of list) (refused_nearest k)).refusal ≡ k
  unfolding if_accepted
  own_number zero = refl
  own_number (suc k) = refl

  pub number_told : (nearest_answer list cells).refusal ≡ refusal (nearest_order list cells)
  unfolding nearest_answer
  number_told = own_number (refusal (nearest_order list cells))

  -- no tree of the list has a smaller sum, every earlier one has a larger, and the sum told is its own
  pub none_nearer : (nearest_answer list cells).refusal ≡ 0 → (let r = nearest_answer list cells in
      IsFirstLeast (sum_to list) (trees_of list) r.position × (r.sum ≡ sum_to list r.position) × (r.sum ≤ 2796682240))
  none_nearer e =
      let h = nearest_check.0 (sym number_told ∙ e) in
      let least = least_sum list h.0 in
      rw (nearest_told h.0 h.1) (least, refl, sum_most list h.0 _ least.position)

  -- with fewer than four tips the first tree is told, with the sum 0
  pub few_tips_told : (nearest_answer list cells).refusal ≡ 0 → tips (tree_at list 0) < 4
      → nearest_answer list cells ≡ record { refusal = 0; position = 0; sum = 0 }
  few_tips_told e few =
      let h = nearest_check.0 (sym number_told ∙ e) in
      let zero-at = few_tips list h.0 few in
      let least = least_sum list h.0 in
      let first : first_least (sum_to list) (trees_of list) ≡ 0 = least_only (sum_to list) (trees_of list) _ 0 least (record {
        position = omega (arith, h.0.some_trees);
        least = λ i l. omega (arith, zero-at 0 (omega (arith, h.0.some_trees)));
        earliest = λ i l. absurd (omega arith);
      }) in
      nearest_told h.0 h.1
      ∙ rw (first, zero-at 0 (omega (arith, h.0.some_trees))) refl
