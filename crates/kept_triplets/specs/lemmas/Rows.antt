-- What a row of pairs of edges adds, from the sums over places.
-- Assumes nothing.
use Rattle.std.specs.Prelude.{◌≡◌, Bool, true, false, ◌⊎◌, List, ℕ, zero, suc, ◌+◌, ◌*◌, ◌-◌, ◌/◌, ◌%◌, ◌≤◌, ◌<◌, length}
use Rattle.std.proofs.Math.Path.{refl, ap, ap₂}
use Rattle.std.proofs.Common.{sym, ◌∙◌, subst}
use Rattle.std.proofs.Math.Logic.{inl, inr}
use native.Mathlib.Omega.{arith}
use Rattle.table_words.specs.Sizes.{node_room}
use Rattle.sums.specs.Sum.{sum}
use Rattle.sums.specs.theorems.SumLaws.{sum_ext, sum_none, sum_mono, sum-add, sum-part}
use Rattle.sums.specs.Bits.{bit}
use Rattle.sums.specs.theorems.Products.{product_le}
use Rattle.shapes.specs.theorems.TripletCounts.{alike_term, apart_term}
use Rattle.shapes.proofs.theorems.LowestAncestors.{leaves_once}
use Rattle.tree_check.specs.Table.{Table, word, tips, nodes, parent, node_of, beyond}
use Rattle.tree_check.specs.IsTree.{IsTree}
use Rattle.tree_check.specs.theorems.RootedTables.{rooted}
use Rattle.walks.specs.theorems.SpanLaws.{in_span}
use Rattle.counting.specs.Kept.{is_other}
use Rattle.counting.specs.theorems.KeptTripletSums.{size_over, both_over, alike_over, apart_over}
use Rattle.counting.proofs.theorems.KeptTripletSums.{nested}
use Rattle.kept_triplets.specs.lemmas.Places.{SpanLists, PlacesTo, Prefixed, totals_of, totals_are, span_fits, cell_is, above_too}
use Rattle.kept_triplets.specs.lemmas.Weighing.{leaving, Weighed, weighed-parts}
use Rattle.triplets.proofs.lemmas.EdgeSums.{sum_most}
use Rattle.kept_triplets.specs.lemmas.Terms.{alike_most, apart_most}
use Rattle.kept_triplets.specs.lemmas.Edges.{span_of, parent-word, size_few}

-- ---- as the code reads the sums

-- the two parts of a number: the labels beyond an edge, and those that leave there
abbrev pub low_part : ℕ → ℕ
low_part x = x % 65536

abbrev pub high : ℕ → ℕ
high x = x / 65536

abbrev pub rest_of : List ℕ → List ℕ → List ℕ → ℕ → ℕ → ℕ
rest_of sums begin end j p = span_of sums begin end p - span_of sums begin end j

abbrev pub kept_alike_at : List ℕ → List ℕ → List ℕ → ℕ → ℕ → ℕ
kept_alike_at sums begin end j p = let i = low_part (span_of sums begin end j) in i * (i - 1) * high (rest_of sums begin end j p)

abbrev pub kept_apart_at : List ℕ → List ℕ → List ℕ → ℕ → ℕ → ℕ
kept_apart_at sums begin end j p =
    low_part (span_of sums begin end j) * (low_part (rest_of sums begin end j p) * high (span_of sums begin end j))

-- node j and its parent p
pub record FourSums (sums begin end : List ℕ) (j p : ℕ) : Type 0 where
  pub node : j < node_room
  pub parent_node : p < node_room
  pub rise : (word sums (word begin j) ≤ word sums (word end j)) × (word sums (word begin p) ≤ word sums (word end p))
  pub inside : span_of sums begin end j ≤ span_of sums begin end p
  pub few : (low_part (span_of sums begin end j) ≤ 256) × (high (span_of sums begin end j) ≤ 256)
  pub few_rest : (low_part (rest_of sums begin end j p) ≤ 256) × (high (rest_of sums begin end j p) ≤ 256)

-- each listed node of the second table, and its parent
pub record RowSums (sums begin end second columns : List ℕ) (count : ℕ) : Type 0 where
  pub few : count ≤ node_room
  pub listed : (q : ℕ) → q < count → (word columns q ≤ node_room) × (2 + word columns q < length second)
  pub four : (q : ℕ) → q < count → FourSums sums begin end (word columns q) (word second (2 + word columns q))

abbrev pub kept_alike_listed : List ℕ → List ℕ → List ℕ → List ℕ → List ℕ → ℕ → ℕ
kept_alike_listed sums begin end second columns q = kept_alike_at sums begin end (word columns q) (word second (2 + word columns q))

abbrev pub kept_apart_listed : List ℕ → List ℕ → List ℕ → List ℕ → List ℕ → ℕ → ℕ
kept_apart_listed sums begin end second columns q = kept_apart_at sums begin end (word columns q) (word second (2 + word columns q))

module _ (sums begin end second columns : List ℕ) (count : ℕ) (h : RowSums sums begin end second columns count) where
  -- sums over the first q listed nodes
  pub listed_low : (q : ℕ) → q ≤ count
      → (sum q (kept_alike_listed sums begin end second columns) ≤ 17179869184)
      × (sum q (kept_apart_listed sums begin end second columns) ≤ 17179869184)
  listed_low q l = (
    omega (
      arith,
      sum_most q 16777216 (kept_alike_listed sums begin end second columns) (λ i m.
          let f = h.four i (omega arith) in alike_most _ _ f.few.0 f.few_rest.1),
      product_le node_room 16777216 q 16777216 (omega (arith, h.few)) (omega arith),
    ),
    omega (
      arith,
      sum_most q 16777216 (kept_apart_listed sums begin end second columns) (λ i m.
          let f = h.four i (omega arith) in apart_most _ _ _ f.few.0 f.few_rest.0 f.few.1),
      product_le node_room 16777216 q 16777216 (omega (arith, h.few)) (omega arith),
    ),
  )

-- the parts of numbers that are read
pub parts_few : (x x' y y' : ℕ) → x ≡ x' → y ≡ y' → x' ≤ y' → (low_part x' ≤ 256) × (high x' ≤ 256)
    → (low_part (y' - x') ≤ 256) × (high (y' - x') ≤ 256)
    → (x ≤ y) × ((low_part x ≤ 256) × (high x ≤ 256)) × ((low_part (y - x) ≤ 256) × (high (y - x) ≤ 256))
parts_few x x' y y' a b l f r = rw (a, b) (l, f, r)

-- i labels beyond both edges, x that leave at the second, y that leave at the first, d that leave at both
parted : (i r c w : ℕ) → i ≤ r → i ≤ c → r + c ≤ w + i
    → (c ≡ i + (c - i)) × (r ≡ i + (r - i)) × (w ≡ r + ((c - i) + (w + i - r - c)))
parted i r c w a b d = (omega arith, omega arith, omega arith)

differ : (i x y d own over : ℕ) → own ≡ i + 65536 * y → over ≡ i + x + 65536 * (y + d) → (over - own ≡ x + 65536 * d) × (own ≤ over)
differ i x y d own over a b = (omega arith, omega arith)

few_of : (a b : ℕ) → a ≡ b → b ≤ 256 → a ≤ 256
few_of a b e l = omega arith

part_few : (i x r : ℕ) → r ≡ i + x → r ≤ 256 → x ≤ 256
part_few i x r e l = omega arith

few_part : (i x r : ℕ) → r ≡ i + x → r ≤ 256 → x < 65536
few_part i x r e l = omega arith

last_few : (r y d w : ℕ) → w ≡ r + (y + d) → w ≤ 256 → d ≤ 256
last_few r y d w e l = omega arith

-- one subtraction for both parts
halves : (d m x : ℕ) → d < 65536 → x ≡ d + 65536 * m → (low_part x ≡ d) × (high x ≡ m)
halves d m x l e = rw e (omega arith, omega arith)

-- ---- what is prepared for the rows of two tables

pub record Prepared (t u : Table) (marks : List ℕ) (n : ℕ) (fb fe sb se at columns : List ℕ) (count : ℕ) : Type 0 where
  pub tree : IsTree t
  pub tree' : IsTree u
  pub same : tips t ≡ tips u
  pub tips_are : n ≡ tips t
  pub spans : SpanLists t fb fe
  pub spans' : SpanLists u sb se
  pub places : PlacesTo (tips t) t u marks fb sb at
  pub few : count ≤ node_room
  pub column : (q : ℕ) → q < count → (2 ≤ word columns q) × (word columns q < nodes u)
  pub enough : (f : ℕ → ℕ)
      → ((j : ℕ) → 2 ≤ j → j < nodes u
      → (size_over marks (tips t) u j ≤ 1) ⊎ (size_over marks (tips t) u (parent u j) ≤ size_over marks (tips t) u j) → f j ≡ 0)
      → sum count (λ q. f (word columns q)) ≡ sum (nodes u - 2) (λ j. f (j + 2))

-- ---- pairs that add nothing

no_alike : (i r c w : ℕ) → (i ≤ 1) ⊎ (w + i ≤ r + c) → alike_term i r c w ≡ 0
unfolding alike_term
no_alike zero r c w m = omega arith
no_alike (suc zero) r c w m = let z : suc zero - 1 ≡ 0 = omega arith in rw z (omega arith)
no_alike (suc (suc i)) r c w (inl m) = absurd (omega arith)
no_alike (suc (suc i)) r c w (inr m) = let z : w + suc (suc i) - r - c ≡ 0 = omega arith in rw z (omega arith)

no_apart : (i r c : ℕ) → (r ≤ 1) ⊎ (r ≤ i) → apart_term i r c ≡ 0
unfolding apart_term
no_apart zero r c m = omega arith
no_apart (suc i) r c (inl m) = let z : r - suc i ≡ 0 = omega arith in rw z (omega arith)
no_apart (suc i) r c (inr m) = let z : r - suc i ≡ 0 = omega arith in rw z (omega arith)

no_apart' : (i r c : ℕ) → (c ≤ 1) ⊎ (c ≤ i) → apart_term i r c ≡ 0
unfolding apart_term
no_apart' zero r c m = omega arith
no_apart' (suc i) r c (inl m) = let z : c - suc i ≡ 0 = omega arith in rw z (omega arith)
no_apart' (suc i) r c (inr m) = let z : c - suc i ≡ 0 = omega arith in rw z (omega arith)

-- ---- labels beyond two edges, and beyond one

-- a: the label counts; b: it is beyond the edge, p: beyond the edge above it, c: beyond the other edge
bits_both : (a b c : Bool) → (bit a * (bit b * bit c) ≤ bit a * bit b) × (bit a * (bit b * bit c) ≤ bit a * bit c)
unfolding bit
bits_both true true true = omega arith
bits_both true true false = omega arith
bits_both true false true = omega arith
bits_both true false false = omega arith
bits_both false b c = omega arith

gap_bits : (a c : Bool) (b p : ℕ) → b ≤ p → bit a * (p * bit c) + bit a * b ≤ bit a * p + bit a * (b * bit c)
unfolding bit
gap_bits true true b p l = omega arith
gap_bits true false b p l = omega arith
gap_bits false c b p l = omega arith

gap_bits' : (a c : Bool) (b p : ℕ) → b ≤ p → bit a * (bit c * p) + bit a * b ≤ bit a * p + bit a * (bit c * b)
unfolding bit
gap_bits' true true b p l = omega arith
gap_bits' true false b p l = omega arith
gap_bits' false c b p l = omega arith

module _ (marks : List ℕ) (n : ℕ) (t u : Table) where
  pub both_size : (i j : ℕ) → (both_over marks n t u i j ≤ size_over marks n t i) × (both_over marks n t u i j ≤ size_over marks n u j)
  unfolding both_over size_over
  both_size i j = (
    sum_mono n _ _ (λ y l. (bits_both (is_other marks 0 y) (beyond t i y) (beyond u j y)).0),
    sum_mono n _ _ (λ y l. (bits_both (is_other marks 0 y) (beyond t i y) (beyond u j y)).1),
  )

  -- what lies beyond the edge above alone, and beyond the other edge, lies beyond the edge above alone
  pub row_gap : IsTree t → (i j : ℕ) → 1 ≤ i
      → both_over marks n t u (parent t i) j + size_over marks n t i ≤ size_over marks n t (parent t i) + both_over marks n t u i j
  unfolding both_over size_over beyond
  row_gap g i j l = omega (
    arith,
    sum_mono n _ _ (λ y m. gap_bits (is_other marks 0 y) (beyond u j y) (bit (beyond t i y)) (bit (beyond t (parent t i) y))
        (let b = leaves_once (parent t) (rooted t g) i (node_of t y) l in omega (arith, b))),
    sum-add n (λ y. bit (is_other marks 0 y) * (bit (beyond t (parent t i) y) * bit (beyond u j y))) (λ y. bit (is_other marks 0 y) * bit (beyond t i y)),
    sum-add n (λ y. bit (is_other marks 0 y) * bit (beyond t (parent t i) y)) (λ y. bit (is_other marks 0 y) * (bit (beyond t i y) * bit (beyond u j y))),
  )

  pub column_gap : IsTree u → (i j : ℕ) → 1 ≤ j
      → both_over marks n t u i (parent u j) + size_over marks n u j ≤ size_over marks n u (parent u j) + both_over marks n t u i j
  unfolding both_over size_over beyond
  column_gap g i j l = omega (
    arith,
    sum_mono n _ _ (λ y m. gap_bits' (is_other marks 0 y) (beyond t i y) (bit (beyond u j y)) (bit (beyond u (parent u j) y))
        (let b = leaves_once (parent u) (rooted u g) j (node_of u y) l in omega (arith, b))),
    sum-add n (λ y. bit (is_other marks 0 y) * (bit (beyond t i y) * bit (beyond u (parent u j) y))) (λ y. bit (is_other marks 0 y) * bit (beyond u j y)),
    sum-add n (λ y. bit (is_other marks 0 y) * bit (beyond u (parent u j) y)) (λ y. bit (is_other marks 0 y) * (bit (beyond t i y) * bit (beyond u j y))),
  )

module _ (t u : Table) (marks : List ℕ) (n : ℕ) (fb fe sb se at columns : List ℕ) (count : ℕ)
    (h : Prepared t u marks n fb fe sb se at columns count) where
  abbrev X : ℕ → ℕ → ℕ
  X i j = both_over marks (tips t) t u i j

  -- node v from 2 on, and its parent
  pub record RowAt (v p : ℕ) : Type 0 where
    pub in_table : (2 + v < length t) × (v < node_room)
    pub parent_in : p < node_room
    pub parent_is : p ≡ parent t v

  pub row_at : (v p : ℕ) → 2 ≤ v → v < nodes t → p ≡ word t (2 + v) → RowAt v p
  row_at v p a l q =
      let g = h.tree in
      let w = parent-word t v l in
      let r = g.parents_range v a l in
      record {
        in_table = (omega (arith, g.words), omega (arith, g.tips_range, g.nodes_range));
        parent_in = omega (arith, q, w, r, g.tips_range, g.nodes_range);
        parent_is = q ∙ w;
      }

  nest : (v j : ℕ) → 2 ≤ v → v < nodes t → 2 ≤ j → j < nodes u
      → (X v j ≤ X v (parent u j)) × (X v j ≤ X (parent t v) j)
      × (X v (parent u j) + X (parent t v) j ≤ X (parent t v) (parent u j) + X v j)
  nest zero j a l b m = absurd (omega arith)
  nest (suc zero) j a l b m = absurd (omega arith)
  nest (suc (suc v)) zero a l b m = absurd (omega arith)
  nest (suc (suc v)) (suc zero) a l b m = absurd (omega arith)
  nest (suc (suc v)) (suc (suc j)) a l b m =
      nested marks t u h.tree h.tree' h.same v j (omega arith) (omega arith)

  module _ (v p : ℕ) (weights sums : List ℕ) (a : 2 ≤ v) (l : v < nodes t) (ep : p ≡ parent t v)
      (ws : (q : ℕ) → word weights q ≡ bit (in_span q (word fb v) (word fe v)) + 65536 * leaving (word fb v) (word fe v) (word fb p) (word fe p) q)
      (o : Weighed at weights (n - 1) sums) where
    p_range : (1 ≤ p) × (p < nodes t)
    p_range = let r = h.tree.parents_range v a l in (omega (arith, ep, r.0), omega (arith, ep, r.1))

    -- the totals of one row
    module _ (w : ℕ) (pw : 1 ≤ w) (lw : w < nodes t) where
      q' : Prefixed at (word fb w) (word fe w) (tips t - 1) (totals_of at (word fb w) (word fe w))
      q' = totals_are at (word fb w) (word fe w) (tips t - 1) (let r = h.tree.tips_range in omega arith)

      cell : (j : ℕ) → 1 ≤ j → j < nodes u → span_of (totals_of at (word fb w) (word fe w)) sb se j ≡ X w j
      cell j pj lj = cell_is t u h.tree h.tree' h.same marks fb fe sb se at h.spans h.spans' h.places w j pw lw pj lj
          (totals_of at (word fb w) (word fe w)) q'

      -- a total at the end of a span is one at its beginning and the labels beyond both
      total : (j : ℕ) → 1 ≤ j → j < nodes u
          → sum (word se j) (λ i. bit (in_span (word at i) (word fb w) (word fe w)))
          ≡ sum (word sb j) (λ i. bit (in_span (word at i) (word fb w) (word fe w))) + X w j
      total j pj lj =
          let f = span_fits u h.tree' sb se h.spans' j pj lj in
          let e = h.same in
          omega (
            arith,
            cell j pj lj,
            q'.sum_is (word sb j) (omega (arith, f)),
            q'.sum_is (word se j) (omega (arith, f)),
            sum-part (word sb j) (word se j) (λ i. bit (in_span (word at i) (word fb w) (word fe w))) f.0,
          )

    -- what the first k places weigh
    weight : (k : ℕ) → k ≤ n - 1
        → word sums k + 65536 * sum k (λ i. bit (in_span (word at i) (word fb v) (word fe v)))
        ≡ sum k (λ i. bit (in_span (word at i) (word fb v) (word fe v))) + 65536 * sum k (λ i. bit (in_span (word at i) (word fb p) (word fe p)))
    weight k m = rw (o.sum_is k m) (weighed-parts at weights (word fb v) (word fe v) (word fb p) (word fe p) k ws (λ i li.
        subst (λ (q : ℕ). bit (in_span (word at i) (word fb v) (word fe v)) ≤ bit (in_span (word at i) (word fb q) (word fe q))) (sym ep)
        (above_too t u h.tree h.tree' h.same marks fb fe sb se at h.spans h.spans' h.places v i (omega arith) l
        (omega (arith, ep, p_range.0)) (omega (arith, h.tips_are)))))

    -- both parts at node j, where y labels leave
    both : (j y : ℕ) → 1 ≤ j → j < nodes u → X p j ≡ X v j + y
        → (span_of sums sb se j ≡ X v j + 65536 * y) × (word sums (word sb j) ≤ word sums (word se j))
    both j y pj lj leave =
        let f = span_fits u h.tree' sb se h.spans' j pj lj in
        let e = h.same in
        let pr = p_range in
        let wb = weight (word sb j) (omega (arith, f, h.tips_are)) in
        let we = weight (word se j) (omega (arith, f, h.tips_are)) in
        let tv = total v (omega arith) l j pj lj in
        let tp = total p pr.0 pr.1 j pj lj in
        (omega (arith, wb, we, tv, tp), omega (arith, wb, we, tv, tp))

    few_both : (i j : ℕ) → X i j ≤ 256
    few_both i j = omega (arith, (both_size marks (tips t) t u i j).0, size_few marks (tips t) t i, h.tree.tips_range.1)

    -- node j of the second table, and its parent
    four : (j pj : ℕ) → 2 ≤ j → j < nodes u → pj ≡ parent u j
        → FourSums sums sb se j pj × (kept_alike_at sums sb se j pj ≡ alike_over marks (tips t) t u v j)
        × (kept_apart_at sums sb se j pj ≡ apart_over marks (tips t) t u v j)
    unfolding alike_over apart_over alike_term apart_term
    four j pj b m e' =
        let g = h.tree' in
        let r = g.parents_range j b m in
        let pp : 1 ≤ pj = omega (arith, e', r.0) in
        let lp : pj < nodes u = omega (arith, e', r.1) in
        let z = nest v j a l b m in
        let vp : X v pj ≡ X v (parent u j) = ap (X v) e' in
        let pq : X p pj ≡ X (parent t v) (parent u j) = ap₂ X ep e' in
        let pc : X p j ≡ X (parent t v) j = ap (λ (k : ℕ). X k j) ep in
        let q = parted (X v j) (X v (parent u j)) (X (parent t v) j) (X (parent t v) (parent u j)) z.0 z.1 z.2 in
        let y = X (parent t v) j - X v j in
        let x = X v (parent u j) - X v j in
        let d = X (parent t v) (parent u j) + X v j - X v (parent u j) - X (parent t v) j in
        let own = both j y (omega arith) m (pc ∙ q.0) in
        let over = both pj (y + d) pp lp (pq ∙ q.2 ∙ ap (λ (k : ℕ). k + (y + d)) (sym vp)) in
        let over-is : span_of sums sb se pj ≡ X v j + x + 65536 * (y + d) = over.0 ∙ ap (λ (k : ℕ). k + 65536 * (y + d)) (vp ∙ q.1) in
        let fi = few_both v j in
        let fr = few_both v (parent u j) in
        let fc = few_both (parent t v) j in
        let fw = few_both (parent t v) (parent u j) in
        let i = halves (X v j) y (span_of sums sb se j) (omega arith) own.0 in
        let rest = halves x d (rest_of sums sb se j pj) (few_part (X v j) x (X v (parent u j)) q.1 fr) (differ (X v j) x y d _ _ own.0 over-is).0 in (
          record {
            node = omega (arith, g.tips_range, g.nodes_range);
            parent_node = omega (arith, g.tips_range, g.nodes_range);
            rise = (own.1, over.1);
            inside = (differ (X v j) x y d _ _ own.0 over-is).1;
            few = (few_of _ _ i.0 fi, few_of _ _ i.1 (part_few (X v j) y (X (parent t v) j) q.0 fc));
            few_rest = (few_of _ _ rest.0 (part_few (X v j) x (X v (parent u j)) q.1 fr), few_of _ _ rest.1 (last_few (X v (parent u j)) y d _ q.2 fw));
          },
          rw (i.0, rest.1) refl,
          rw (i.0, i.1, rest.0) refl,
        )

    pub row_sums : RowSums sums sb se u columns count
    row_sums =
        let g = h.tree' in record {
          few = h.few;
          listed = λ q m. let c = h.column q m in
              (omega (arith, c.1, g.tips_range, g.nodes_range), omega (arith, c.1, g.words));
          four = λ q m. let c = h.column q m in (four (word columns q) _ c.0 c.1 (parent-word u (word columns q) c.1)).0;
        }

    -- the columns that are not listed add nothing
    pub row_terms : (sum count (kept_alike_listed sums sb se u columns) ≡ sum (nodes u - 2) (λ j. alike_over marks (tips t) t u v (j + 2)))
        × (sum count (kept_apart_listed sums sb se u columns) ≡ sum (nodes u - 2) (λ j. apart_over marks (tips t) t u v (j + 2)))
    unfolding alike_over apart_over
    row_terms = (
      sum_ext count _ _ (λ q m. let c = h.column q m in (four (word columns q) _ c.0 c.1 (parent-word u (word columns q) c.1)).1)
          ∙ h.enough (λ j. alike_over marks (tips t) t u v j) (λ j b m e. no_alike _ _ _ _ (none_alike j b m e)),
      sum_ext count _ _ (λ q m. let c = h.column q m in (four (word columns q) _ c.0 c.1 (parent-word u (word columns q) c.1)).2)
          ∙ h.enough (λ j. apart_over marks (tips t) t u v j) none_apart,
    )
      where
        none_alike : (j : ℕ) → 2 ≤ j → j < nodes u
            → (size_over marks (tips t) u j ≤ 1) ⊎ (size_over marks (tips t) u (parent u j) ≤ size_over marks (tips t) u j)
            → (X v j ≤ 1) ⊎ (X (parent t v) (parent u j) + X v j ≤ X v (parent u j) + X (parent t v) j)
        none_alike j b m (inl e) = inl (omega (arith, (both_size marks (tips t) t u v j).1))
        none_alike j b m (inr e) = inr (omega (
          arith,
          column_gap marks (tips t) t u h.tree' (parent t v) j (omega arith),
          (nest v j a l b m).0,
        ))

        none_apart : (j : ℕ) → 2 ≤ j → j < nodes u
            → (size_over marks (tips t) u j ≤ 1) ⊎ (size_over marks (tips t) u (parent u j) ≤ size_over marks (tips t) u j)
            → apart_over marks (tips t) t u v j ≡ 0
        none_apart j b m (inl e) = no_apart' _ _ _ (inl (omega (arith, (both_size marks (tips t) t u (parent t v) j).1)))
        none_apart j b m (inr e) = no_apart _ _ _ (inr (omega (arith, column_gap marks (tips t) t u h.tree' v j (omega arith))))

  -- a row that is not listed adds nothing
  module _ (v : ℕ) (a : 2 ≤ v) (l : v < nodes t)
      (e : (size_over marks (tips t) t v ≤ 1) ⊎ (size_over marks (tips t) t (parent t v) ≤ size_over marks (tips t) t v)) where
    pub no_row : (sum (nodes u - 2) (λ j. alike_over marks (tips t) t u v (j + 2)) ≡ 0)
        × (sum (nodes u - 2) (λ j. apart_over marks (tips t) t u v (j + 2)) ≡ 0)
    unfolding alike_over apart_over
    no_row = (
      sum_none (nodes u - 2) _ (λ j m. no_alike _ _ _ _ (none_alike (j + 2) (omega arith) (omega arith) e)),
      sum_none (nodes u - 2) _ (λ j m. none_apart (j + 2) (omega arith) (omega arith) e),
    )
      where
        none_alike : (j : ℕ) → 2 ≤ j → j < nodes u
            → (size_over marks (tips t) t v ≤ 1) ⊎ (size_over marks (tips t) t (parent t v) ≤ size_over marks (tips t) t v)
            → (X v j ≤ 1) ⊎ (X (parent t v) (parent u j) + X v j ≤ X v (parent u j) + X (parent t v) j)
        none_alike j b m (inl e) = inl (omega (arith, (both_size marks (tips t) t u v j).0))
        none_alike j b m (inr e) = inr (omega (
          arith,
          row_gap marks (tips t) t u h.tree v (parent u j) (omega arith),
          (nest v j a l b m).1,
        ))

        none_apart : (j : ℕ) → 2 ≤ j → j < nodes u
            → (size_over marks (tips t) t v ≤ 1) ⊎ (size_over marks (tips t) t (parent t v) ≤ size_over marks (tips t) t v)
            → apart_term (X v j) (X v (parent u j)) (X (parent t v) j) ≡ 0
        none_apart j b m (inl e) = no_apart _ _ _ (inl (omega (arith, (both_size marks (tips t) t u v (parent u j)).0)))
        none_apart j b m (inr e) = no_apart' _ _ _ (inr (omega (arith, row_gap marks (tips t) t u h.tree v j (omega arith))))
