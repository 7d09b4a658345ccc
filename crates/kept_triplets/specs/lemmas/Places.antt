-- The places of labels in the walks of two trees: how many labels lie beyond two edges, from sums over places.
-- Assumes nothing.
use Rattle.std.specs.Prelude.{◌≡◌, Bool, ◌≢◌, List, length}
use Rattle.std.proofs.Math.Path.{sym, ap, ap₂}
use Rattle.std.proofs.Common.{◌∙◌, inl, inr, eq-zero-or-pos}
use Rattle.std.proofs.Math.Bool.{true, false}
use Prim.Native.Nat.{ℕ, zero, suc, ◌*◌, ◌-◌, ◌≤◌, ◌<◌}
use native.Mathlib.Omega.{arith}
use Rattle.table_words.specs.Sizes.{tips_most, cell_most}
use Rattle.sums.specs.Sum.{sum}
use Rattle.sums.specs.theorems.SumLaws.{sum_ext, sum_first, sum-part}
use Rattle.sums.specs.Bits.{bit}
use Rattle.sums.specs.Counts.{count}
use Rattle.sums.specs.Lists.{in_order}
use Rattle.sums.specs.theorems.ListLaws.{in_order-length, in_order_at}
use Rattle.sums.specs.theorems.BitLaws.{bit-T, bit_no, is_other_lem}
use Rattle.tree_check.specs.Table.{Table, word, tips, nodes, parent, label, node_of, beyond}
use Rattle.tree_check.specs.IsTree.{IsTree}
use Rattle.walks.specs.Walk.{walk, start}
use Rattle.walks.specs.theorems.NodeLabels.{node_at}
use Rattle.walks.specs.theorems.Reach.{walk_at}
use Rattle.walks.specs.theorems.WalkLaws.{part_fits}
use Rattle.marks.specs.Marks.{is_kept}
use Rattle.walks.specs.Spans.{span_begin, span_end}
use Rattle.walks.specs.theorems.SpanLaws.{in_span, in_span-iff, SpansOf, start_after, listed_span}
use Rattle.counting.specs.Kept.{is_other}
use Rattle.counting.proofs.theorems.OtherLabels.{other_bit, not_itself}
use Rattle.counting.specs.theorems.KeptTripletSums.{both_over, size_over}
use Rattle.sums.specs.theorems.Permutations.{onto, sum_permuted}
use Rattle.sums.specs.theorems.Products.{product_le}
use Rattle.shapes.proofs.theorems.AncestorLaws.{parent-lt}
use Rattle.shapes.proofs.theorems.LowestAncestors.{leaves_once}
use Rattle.tree_check.specs.theorems.RootedTables.{rooted}
use Rattle.kept_triplets.specs.lemmas.SpanSums.{span_sum}

-- a kept label is at place p, a struck one at none: no span reaches past place 254
unfoldable pub place_of : Bool → ℕ → ℕ
place_of keeps p = elim keeps [ true ↦ p | false ↦ cell_most ]

-- at each label's place in the second walk its place in the first; of the labels 1 to k − 1
pub record PlacesTo (k : ℕ) (t u : Table) (marks beginT beginU at : List ℕ) : Type 0 where
  pub long : length at ≡ tips_most
  pub at_is : (y : ℕ) → 1 ≤ y → y < k
      → word at (word beginU (node_of u y)) ≡ place_of (is_kept marks y) (word beginT (node_of t y))

-- how many of the first k places lie in the span from b to before e
pub record Prefixed (at : List ℕ) (b e n : ℕ) (sums : List ℕ) : Type 0 where
  pub long : length sums ≡ tips_most
  pub sum_is : (k : ℕ) → k ≤ n → word sums k ≡ sum k (λ i. bit (in_span (word at i) b e))

-- a list of such totals
abbrev pub totals_of : List ℕ → ℕ → ℕ → List ℕ
totals_of at b e = in_order tips_most (λ k. sum k (λ i. bit (in_span (word at i) b e)))

pub totals_are : (at : List ℕ) (b e n : ℕ) → n < tips_most → Prefixed at b e n (totals_of at b e)
totals_are at b e n l = record {
  long = in_order-length tips_most _;
  sum_is = λ k m. in_order_at tips_most (λ k. sum k (λ i. bit (in_span (word at i) b e))) k (omega arith);
}

-- where the spans of a table's nodes begin and end
pub record SpanLists (t : Table) (begin end : List ℕ) : Type 0 where
  pub begins : (v : ℕ) → v < nodes t → word begin v ≡ span_begin t v
  pub ends : (v : ℕ) → v < nodes t → word end v ≡ span_end t v

pub span_lists : (t : Table) (labelled begin end : List ℕ) → SpansOf t labelled begin end → SpanLists t begin end
span_lists t labelled begin end s = record { begins = s.begins; ends = s.ends }

module _ (t : Table) (g : IsTree t) (begin end : List ℕ) (s : SpanLists t begin end) where
  -- a label but 0 lies beyond node j exactly where its place lies in the node's span
  pub beyond_place : (x j : ℕ) → x < tips t → x ≢ 0 → 1 ≤ j → j < nodes t
      → bit (in_span (word begin (node_of t x)) (word begin j) (word end j)) ≡ bit (beyond t j x)
  beyond_place x j lx d pj lj =
      ap (λ (v : ℕ). bit (in_span (word begin v) (word begin j) (word end j))) (sym (in_order_at (tips t) (node_of t) x lx))
      ∙ listed_span t g (in_order (tips t) (node_of t)) begin end whole x j lx d pj lj
    where
      whole : SpansOf t (in_order (tips t) (node_of t)) begin end
      whole = record { node = λ y l. in_order_at (tips t) (node_of t) y l; begins = s.begins; ends = s.ends }

  -- a label but 0 is not at node 0
  pub later_node : (y : ℕ) → 1 ≤ y → y < tips t → 1 ≤ node_of t y
  later_node y p l = elim (eq-zero-or-pos (node_of t y)) [
    | inr q ↦ q
    | inl z ↦ absurd (omega (arith, (node_at t g y l).1, ap (label t) z, g.root_label))
  ]

  pub span_fits : (j : ℕ) → 1 ≤ j → j < nodes t → (word begin j ≤ word end j) × (word end j ≤ tips t - 1)
  span_fits j p l = omega (
    arith,
    s.begins j l,
    s.ends j l,
    start_after t g j p,
    part_fits t g j l,
  )

  -- the place of a label
  pub place_lt : (y : ℕ) → 1 ≤ y → y < tips t → word begin (node_of t y) < tips t - 1
  place_lt y p l =
      let v = node_of t y in
      let a = node_at t g y l in
      let o = later_node y p l in
      omega (arith, s.begins v a.0, start_after t g v o, (walk_at t g v a.0 (omega (arith, a.1))).0)

  pub place_one : (y y' : ℕ) → 1 ≤ y → y < tips t → 1 ≤ y' → y' < tips t
      → word begin (node_of t y) ≡ word begin (node_of t y') → y ≡ y'
  place_one y y' p l p' l' e =
      let a = node_at t g y l in
      let a' = node_at t g y' l' in
      let o = later_node y p l in
      let o' = later_node y' p' l' in
      let q : start t (node_of t y) ≡ start t (node_of t y') = omega (
        arith,
        e,
        s.begins (node_of t y) a.0,
        s.begins (node_of t y') a'.0,
        start_after t g (node_of t y) o,
        start_after t g (node_of t y') o',
      ) in
      sym ((walk_at t g (node_of t y) a.0 (omega (arith, a.1))).1 ∙ a.1)
      ∙ ap (word (walk t)) q
      ∙ (walk_at t g (node_of t y') a'.0 (omega (arith, a'.1))).1 ∙ a'.1

module _ (t u : Table) (g : IsTree t) (h : IsTree u) (e : tips t ≡ tips u) (marks : List ℕ)
    (beginT endT beginU endU at : List ℕ) (s : SpanLists t beginT endT) (s' : SpanLists u beginU endU)
    (p : PlacesTo (tips t) t u marks beginT beginU at) where
  abbrev N : ℕ
  N = tips t - 1

  -- the place of label i + 1
  π : ℕ → ℕ
  π i = word beginU (node_of u (suc i))

  π_lt : (i : ℕ) → i < N → π i < N
  unfolding π
  π_lt i l = omega (arith, place_lt u h beginU endU s' (suc i) (omega arith) (omega arith))

  π_one : (i j : ℕ) → i < N → j < N → π i ≡ π j → i ≡ j
  unfolding π
  π_one i j li lj q = omega (arith, place_one u h beginU endU s' (suc i) (suc j) (omega arith) (omega arith) (omega arith) (omega arith) q)

  other_is : (i : ℕ) → bit (is_other marks 0 (suc i)) ≡ bit (is_kept marks (suc i))
  other_is i = omega (arith, other_bit marks 0 (suc i), ap (λ (z : ℕ). bit (is_kept marks (suc i)) * z) (is_other_lem 0 (suc i) (λ q. omega arith)))

  kept_place : (i : ℕ) → i < N → bit (in_span (word at (π i)) 0 cell_most) ≡ bit (is_kept marks (suc i))
  unfolding π place_of bit
  kept_place i l = rw (p.at_is (suc i) (omega arith) (omega arith)) (go (is_kept marks (suc i)))
    where
      go : (b : Bool) → bit (in_span (place_of b (word beginT (node_of t (suc i)))) 0 cell_most) ≡ bit b
      go true = bit-T (in_span (word beginT (node_of t (suc i))) 0 cell_most) ((in_span-iff (word beginT (node_of t (suc i))) 0 cell_most).1
          (omega arith, omega (arith, place_lt t g beginT endT s (suc i) (omega arith) (omega arith), g.tips_range.1)))
      go false = bit_no (in_span cell_most 0 cell_most) (λ q. absurd (omega (arith, (in_span-iff cell_most 0 cell_most).0 q)))

  -- how many labels but 0 are kept
  pub all_others : (sums : List ℕ) → Prefixed at 0 cell_most (tips t - 1) sums → word sums (tips t - 1) ≡ count (tips t) (is_other marks 0)
  all_others sums q =
      q.sum_is N (omega arith)
      ∙ sym (sum_permuted N π π_lt π_one (λ k. bit (in_span (word at k) 0 cell_most)))
      ∙ sum_ext N _ _ (λ i l. kept_place i l ∙ sym (other_is i))
      ∙ sym (whole (tips t) (let r = g.tips_range in omega arith))
    where
      whole : (n : ℕ) → 1 ≤ n → count n (is_other marks 0) ≡ sum (n - 1) (λ i. bit (is_other marks 0 (suc i)))
      whole zero l = absurd (omega arith)
      whole (suc n) l =
          let q : suc n - 1 ≡ n = omega arith in
          rw q (sum_first n _ ∙ omega (arith, not_itself marks 0))

  -- a span of all places counts the kept labels beyond a node of the second tree
  module _ (j : ℕ) (pj : 1 ≤ j) (lj : j < nodes u) where
    pub column_is : (sums : List ℕ) → Prefixed at 0 cell_most (tips t - 1) sums
        → (word sums (word endU j) - word sums (word beginU j) ≡ size_over marks (tips t) u j)
        × (word sums (word beginU j) ≤ word sums (word endU j))
    unfolding size_over
    column_is sums q =
        let f = span_fits u h beginU endU s' j pj lj in
        let eb = q.sum_is (word beginU j) (omega (arith, f)) in
        let ee = q.sum_is (word endU j) (omega (arith, f.1)) in (
          ap₂ (λ (x y : ℕ). x - y) ee eb
              ∙ span_sum (λ k. bit (in_span (word at k) 0 cell_most)) (word beginU j) (word endU j) f.0 N (omega (arith, f.1))
              ∙ sym (sum_permuted N π π_lt π_one (λ k. bit (in_span k (word beginU j) (word endU j)) * bit (in_span (word at k) 0 cell_most)))
              ∙ sum_ext N _ _ one
              ∙ sym (whole (tips t) (let r = g.tips_range in omega arith)),
          omega (arith, eb, ee, sum-part (word beginU j) (word endU j) (λ k. bit (in_span (word at k) 0 cell_most)) f.0),
        )
      where
        one : (i : ℕ) → i < N → bit (in_span (π i) (word beginU j) (word endU j)) * bit (in_span (word at (π i)) 0 cell_most)
            ≡ bit (is_other marks 0 (suc i)) * bit (beyond u j (suc i))
        one i l = rw (kept_place i l) (unfold π in rw (
          beyond_place u h beginU endU s' (suc i) j (omega arith) (λ z. omega arith) pj lj,
          other_is i,
        ) (omega arith))

        whole : (n : ℕ) → 1 ≤ n → size_over marks n u j ≡ sum (n - 1) (λ i. bit (is_other marks 0 (suc i)) * bit (beyond u j (suc i)))
        whole zero l = absurd (omega arith)
        whole (suc n) l =
            let q : suc n - 1 ≡ n = omega arith in
            rw q (sum_first n _ ∙ omega (arith, ap (λ (z : ℕ). z * bit (beyond u j 0)) (not_itself marks 0)))

  module _ (v j : ℕ) (pv : 1 ≤ v) (lv : v < nodes t) (pj : 1 ≤ j) (lj : j < nodes u) where
    abbrev φ : ℕ → ℕ
    φ k = bit (in_span (word at k) (word beginT v) (word endT v))

    -- a label's place in the first walk, where it is kept
    kept_beyond_lem : (y : ℕ) → 1 ≤ y → y < tips t
        → bit (in_span (place_of (is_kept marks y) (word beginT (node_of t y))) (word beginT v) (word endT v))
        ≡ bit (is_kept marks y) * bit (beyond t v y)
    unfolding place_of bit
    kept_beyond_lem y py ly = go (is_kept marks y)
      where
        go : (b : Bool) → bit (in_span (place_of b (word beginT (node_of t y))) (word beginT v) (word endT v)) ≡ bit b * bit (beyond t v y)
        go true = beyond_place t g beginT endT s y v ly (λ z. omega arith) pv lv ∙ omega arith
        go false = bit_no (in_span cell_most (word beginT v) (word endT v)) (λ q.
            absurd (omega (arith, (in_span-iff cell_most (word beginT v) (word endT v)).0 q, span_fits t g beginT endT s v pv lv, g.tips_range.1)))
            ∙ omega arith

    each : (i : ℕ) → i < N → bit (in_span (π i) (word beginU j) (word endU j)) * φ (π i)
        ≡ bit (is_other marks 0 (suc i)) * (bit (beyond t v (suc i)) * bit (beyond u j (suc i)))
    unfolding π
    each i l = rw (
      p.at_is (suc i) (omega arith) (omega arith),
      kept_beyond_lem (suc i) (omega arith) (omega arith),
      beyond_place u h beginU endU s' (suc i) j (omega arith) (λ z. omega arith) pj lj,
    )
        (omega (
          arith,
          ap (λ (z : ℕ). z * (bit (beyond t v (suc i)) * bit (beyond u j (suc i)))) same,
        ))
      where
        same : bit (is_other marks 0 (suc i)) ≡ bit (is_kept marks (suc i))
        same = omega (arith, other_bit marks 0 (suc i), ap (λ (z : ℕ). bit (is_kept marks (suc i)) * z) (is_other_lem 0 (suc i) (λ q. omega arith)))

    pub cell_is : (sums : List ℕ) → Prefixed at (word beginT v) (word endT v) (tips t - 1) sums
        → word sums (word endU j) - word sums (word beginU j) ≡ both_over marks (tips t) t u v j
    unfolding both_over
    cell_is sums q =
        let f = span_fits u h beginU endU s' j pj lj in
        ap₂ (λ (x y : ℕ). x - y) (q.sum_is (word endU j) (omega (arith, f.1))) (q.sum_is (word beginU j) (omega (arith, f)))
        ∙ span_sum φ (word beginU j) (word endU j) f.0 N (omega (arith, f.1))
        ∙ sym (sum_permuted N π π_lt π_one (λ k. bit (in_span k (word beginU j) (word endU j)) * φ k))
        ∙ sum_ext N _ _ each
        ∙ sym (whole (tips t) (let r = g.tips_range in omega arith))
      where
        whole : (n : ℕ) → 1 ≤ n → both_over marks n t u v j
            ≡ sum (n - 1) (λ i. bit (is_other marks 0 (suc i)) * (bit (beyond t v (suc i)) * bit (beyond u j (suc i))))
        whole zero l = absurd (omega arith)
        whole (suc n) l =
            let q : suc n - 1 ≡ n = omega arith in
            rw q (sum_first n _ ∙ omega (arith, ap (λ (z : ℕ). z * (bit (beyond t v 0) * bit (beyond u j 0))) (not_itself marks 0)))

  -- where a place lies in a span, it lies in that of the node above
  pub above_too : (v k : ℕ) → 1 ≤ v → v < nodes t → 1 ≤ parent t v → k < tips t - 1
      → bit (in_span (word at k) (word beginT v) (word endT v))
      ≤ bit (in_span (word at k) (word beginT (parent t v)) (word endT (parent t v)))
  unfolding π beyond
  above_too v k pv lv pp lk =
      let r = onto N π π_lt π_one k lk in
      let i = r.0 in
      let li : i < N = r.1 in
      let y = suc i in
      let lp : parent t v < nodes t = omega (arith, parent-lt (parent t) (rooted t g) v pv) in
      let e = ap (word at) (sym r.2) ∙ p.at_is y (omega arith) (omega arith) in
      let s1 = kept_beyond_lem v 1 pv lv (omega arith) second-some y (omega arith) (omega arith) in
      let s2 = kept_beyond_lem (parent t v) 1 pp lp (omega arith) second-some y (omega arith) (omega arith) in
      rw (e, s1, s2) (product_le _ _ _ _ (omega arith) (omega (arith, leaves_once (parent t) (rooted t g) v (node_of t y) pv)))
    where
      second-some : 1 < nodes u
      second-some = let a = h.tips_range in let b = h.nodes_range in omega arith
