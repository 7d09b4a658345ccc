-- The triplets over the kept labels, by sums over edges and over pairs of edges.
-- Assumes nothing.
use Rattle.std.specs.Prelude.{◌≡◌, refl, List, ℕ, suc, ◌+◌, ◌*◌, ◌-◌, ◌≤◌, ◌<◌, eqb}
use Rattle.std.proofs.Common.{sym, ◌∙◌}
use Rattle.std.proofs.Math.Path.{ap, ap₂}
use native.Mathlib.Omega.{arith}
use Rattle.sums.specs.Sum.{sum}
use Rattle.sums.specs.theorems.SumLaws.{sum_ext, sum_first}
use Rattle.sums.specs.Bits.{bit}
use Rattle.sums.specs.theorems.BitLaws.{is_other_lem}
use Rattle.sums.specs.Counts.{count}
use Rattle.sums.specs.theorems.SetLaws.{sets3_ext}
use Rattle.sums.specs.theorems.ThreesLaws.{threes}
use Rattle.sums.specs.theorems.ThreesLaws.{threes-count}
use Rattle.shapes.specs.Ancestors.{anc}
use Rattle.shapes.proofs.theorems.AncestorLaws.{anc_at_zero}
use Rattle.shapes.specs.theorems.Shape.{Shape}
use Rattle.shapes.specs.theorems.TripletCounts.{Outgroup, edge_term}
use Rattle.shapes.proofs.theorems.TripletCounts.{triplet_in, triplets_in, beyond_count, beyond_both, TripletSums, triplet_sums}
use Rattle.shapes.proofs.theorems.TripletCounts.{leave_both, leave_second, leave_first}
use Rattle.tree_check.specs.Table.{Table, tips, nodes, parent, node_of, beyond}
use Rattle.tree_check.specs.IsTree.{IsTree}
use Rattle.tree_check.specs.theorems.RootedTables.{rooted}
use Rattle.walks.specs.theorems.NodeLabels.{node_only}
use Rattle.counting.specs.Labels.{Labels}
use Rattle.counting.specs.Kept.{kept_at}
use Rattle.counting.specs.declared.Case.{Case}
use Rattle.counting.specs.declared.Case.TheVariants.{A, B, C, D, E}
use Rattle.counting.specs.Cases.{case_number, is_case}
use Rattle.counting.specs.Triplets.{triplet, together}
use Rattle.counting.proofs.theorems.KeptLaws.{sum_kept}
use Rattle.counting.proofs.theorems.LabelLaws.{rising_of}
use Rattle.counting.proofs.theorems.TreeShape.{shape_of}
use Rattle.counting.proofs.theorems.CasesInShapes.{case_named}
use Rattle.counting.specs.Kept.{is_other, others}
use Rattle.counting.specs.Triplets.{triplets_over}
use Rattle.counting.specs.theorems.OtherLabels.{after_tip0, with_tip0}
use Rattle.counting.proofs.theorems.OtherLabels.{with_tip-rising, others_rise}
use Rattle.counting.specs.theorems.KeptTripletSums.{alike_over, apart_over, both_over, edge_over, size_over}

one_less : (k : ℕ) → suc k - 1 ≡ k
one_less k = omega arith

-- label 0 lies beyond no edge
pub zero_beyond : (t : Table) → IsTree t → (i : ℕ) → 1 ≤ i → bit (beyond t i 0) ≡ 0
unfolding beyond
zero_beyond t g i l =
    let few = g.tips_range in
    let many = g.nodes_range in
    rw (node_only t g 0 0 (omega arith) (omega arith) g.root_label) (
    anc_at_zero (parent t) (rooted t g) i ∙ is_other_lem i 0 (λ e. omega arith))

module _ (marks : List ℕ) (t u : Table) (g : IsTree t) (h : IsTree u) (e : tips t ≡ tips u) where
  abbrev n : ℕ
  n = tips t

  few : 1 ≤ n
  few = let r = g.tips_range in omega arith

  abbrev l : Labels
  l = with_tip0 marks (tips t)

  first : Shape (suc (count (tips t) (is_other marks 0)))
  first = shape_of t g (with_tip0 marks (tips t)) (with_tip-rising marks (tips t) few)

  second : Shape (suc (count (tips t) (is_other marks 0)))
  second = shape_of u h (with_tip0 marks (tips t)) (rising_of (tips t) (tips u) (with_tip0 marks (tips t)) e (with_tip-rising marks (tips t) few))

  out_first : Outgroup first
  unfolding first shape_of after_tip0
  out_first =
      let a = g.tips_range in
      let b = g.nodes_range in
      record {
        at_root = node_only t g 0 0 (omega arith) (omega arith) g.root_label;
        some = omega arith;
        one_child = λ j l m. (g.parents_range (suc j) (omega arith) (omega arith)).0;
      }

  out_second : Outgroup second
  unfolding second shape_of after_tip0
  out_second =
      let a = h.tips_range in
      let b = h.nodes_range in
      record {
        at_root = node_only u h 0 0 (omega arith) (omega arith) h.root_label;
        some = omega arith;
        one_child = λ j l m. (h.parents_range (suc j) (omega arith) (omega arith)).0;
      }

  sums : TripletSums first second
  sums = triplet_sums first second out_first out_second

  -- ---- what is counted

  by_shapes : (k : Case) → triplets_over (others marks 0 (tips t)) t u k ≡ triplets_in first second (case_number k)
  unfolding triplets_over triplets_in triplet_in is_case triplet together first second shape_of after_tip0
  by_shapes k = rw (one_less (count (tips t) (is_other marks 0))) (sets3_ext (count n (is_other marks 0)) _ _ (λ a b c ab bc lc.
      let r = others_rise marks n in
      let ra = r a b ab (omega arith) in
      let rb = r b c bc lc in
      ap (λ (x : ℕ). bit (eqb x (case_number k)))
      (case_named (kept_at (is_other marks 0) n a) (kept_at (is_other marks 0) n b) (kept_at (is_other marks 0) n c)
      (λ q. omega arith) (λ q. omega arith) (λ q. omega arith) _ _ _ _ _ _)))

  size-first : (i : ℕ) → 1 ≤ i → beyond_count first i ≡ size_over marks (tips t) t i
  unfolding size_over first shape_of after_tip0 beyond
  size-first i p =
      sum_first (count n (is_other marks 0)) _
      ∙ omega (
        arith,
        zero_beyond t g i p,
        sum_kept (is_other marks 0) n (λ y. bit (anc (parent t) i (node_of t y))),
      )

  size_second : (i : ℕ) → 1 ≤ i → beyond_count second i ≡ size_over marks (tips t) u i
  unfolding size_over second shape_of after_tip0 beyond
  size_second i p =
      sum_first (count n (is_other marks 0)) _
      ∙ omega (
        arith,
        zero_beyond u h i p,
        sum_kept (is_other marks 0) n (λ y. bit (anc (parent u) i (node_of u y))),
      )

  both_is : (i j : ℕ) → 1 ≤ i → beyond_both first second i j ≡ both_over marks (tips t) t u i j
  unfolding both_over first second shape_of after_tip0 beyond
  both_is i j p =
      sum_first (count n (is_other marks 0)) _
      ∙ omega (
        arith,
        ap (λ (x : ℕ). x * bit (anc (parent u) j (node_of u 0))) (zero_beyond t g i p),
        sum_kept (is_other marks 0) n (λ y. bit (anc (parent t) i (node_of t y)) * bit (anc (parent u) j (node_of u y))),
      )

  abbrev X : ℕ → ℕ → ℕ
  X i j = both_over marks (tips t) t u i j

  abbrev T : Case → ℕ
  T k = triplets_over (others marks 0 (tips t)) t u k

  -- the parent of a node from 2 on
  up_first : (i : ℕ) → i < nodes t - 2 → 1 ≤ parent t (suc (suc i))
  up_first i m = (g.parents_range (suc (suc i)) (omega arith) (omega arith)).0

  up_second : (j : ℕ) → j < nodes u - 2 → 1 ≤ parent u (suc (suc j))
  up_second j m = (h.parents_range (suc (suc j)) (omega arith) (omega arith)).0

  less : (k : ℕ) → k - 1 - 1 ≡ k - 2
  less k = omega arith

  pub first-sum : sum (nodes t - 2) (λ i. edge_over marks (tips t) t (suc (suc i))) ≡ 2 * (T A + T B + T C)
  unfolding edge_over first shape_of
  first-sum =
      rw (← less (nodes t), by_shapes A, by_shapes B, by_shapes C) (sum_ext (nodes t - 1 - 1) _ _ (λ i m.
      ap₂ edge_term (sym (size-first (suc (suc i)) (omega arith))) (sym (size-first (parent t (suc (suc i))) (up_first i (omega arith)))))
      ∙ sums.first)

  pub second_sum : sum (nodes u - 2) (λ i. edge_over marks (tips t) u (suc (suc i))) ≡ 2 * (T A + T B + T D)
  unfolding edge_over second shape_of
  second_sum =
      rw (← less (nodes u), by_shapes A, by_shapes B, by_shapes D) (sum_ext (nodes u - 1 - 1) _ _ (λ i m.
      ap₂ edge_term (sym (size_second (suc (suc i)) (omega arith))) (sym (size_second (parent u (suc (suc i))) (up_second i (omega arith)))))
      ∙ sums.second)

  pub alike_sum_lem : sum (nodes t - 2) (λ i. sum (nodes u - 2) (λ j. alike_over marks (tips t) t u (suc (suc i)) (suc (suc j)))) ≡ 2 * T A
  unfolding alike_over first second shape_of
  alike_sum_lem =
      rw (← less (nodes t), ← less (nodes u), by_shapes A) (sum_ext (nodes t - 1 - 1) _ _ (λ i m. sum_ext (nodes u - 1 - 1) _ _ (λ j k.
      rw (
        ← both_is (suc (suc i)) (suc (suc j)) (omega arith),
        ← both_is (suc (suc i)) (parent u (suc (suc j))) (omega arith),
        ← both_is (parent t (suc (suc i))) (suc (suc j)) (up_first i (omega arith)),
        ← both_is (parent t (suc (suc i))) (parent u (suc (suc j))) (up_first i (omega arith)),
      ) refl))
      ∙ sums.alike)

  pub apart_sum_lem : sum (nodes t - 2) (λ i. sum (nodes u - 2) (λ j. apart_over marks (tips t) t u (suc (suc i)) (suc (suc j)))) ≡ T B
  unfolding apart_over first second shape_of
  apart_sum_lem =
      rw (← less (nodes t), ← less (nodes u), by_shapes B) (sum_ext (nodes t - 1 - 1) _ _ (λ i m. sum_ext (nodes u - 1 - 1) _ _ (λ j k.
      rw (
        ← both_is (suc (suc i)) (suc (suc j)) (omega arith),
        ← both_is (suc (suc i)) (parent u (suc (suc j))) (omega arith),
        ← both_is (parent t (suc (suc i))) (suc (suc j)) (up_first i (omega arith)),
      ) refl))
      ∙ sums.apart)

  pub total : T A + T B + T C + T D + T E ≡ threes (count (tips t) (is_other marks 0))
  total =
      rw (by_shapes A, by_shapes B, by_shapes C, by_shapes D, by_shapes E)
      (sums.all ∙ threes-count (suc (count (tips t) (is_other marks 0)) - 1) ∙ ap threes (one_less (count (tips t) (is_other marks 0))))

  -- i labels lie beyond both edges, r beyond the first and the second's parent, c beyond the first's parent and the second,
  -- w beyond both parents
  pub nested : (i j : ℕ) → i < nodes t - 2 → j < nodes u - 2
      → (X (suc (suc i)) (suc (suc j)) ≤ X (suc (suc i)) (parent u (suc (suc j))))
      × (X (suc (suc i)) (suc (suc j)) ≤ X (parent t (suc (suc i))) (suc (suc j)))
      × (X (suc (suc i)) (parent u (suc (suc j))) + X (parent t (suc (suc i))) (suc (suc j))
      ≤ X (parent t (suc (suc i))) (parent u (suc (suc j))) + X (suc (suc i)) (suc (suc j)))
  unfolding first second shape_of
  nested i j m k =
      rw (
        ← both_is (suc (suc i)) (suc (suc j)) (omega arith),
        ← both_is (suc (suc i)) (parent u (suc (suc j))) (omega arith),
        ← both_is (parent t (suc (suc i))) (suc (suc j)) (up_first i m),
        ← both_is (parent t (suc (suc i))) (parent u (suc (suc j))) (up_first i m),
      ) (
        omega (arith, leave_second first second out_first out_second i j),
        omega (arith, leave_first first second out_first out_second i j),
        omega (arith, leave_both first second out_first out_second i j),
      )
