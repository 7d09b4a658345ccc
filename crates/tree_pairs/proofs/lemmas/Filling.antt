-- The rows are written from spans and added up the first tree: what is left is the crossings.
-- Assumes nothing.
use Rattle.std.specs.Prelude.{◌≡◌, ◌≢◌, List, ℕ, suc, ◌+◌, ◌*◌, ◌-◌, ◌/◌, ◌%◌, ◌≤◌, ◌<◌, ltb, length, replicate}
use Rattle.std.proofs.Math.Path.{refl, ap}
use Rattle.std.proofs.Common.{sym, ◌∙◌, ap₂, subst, div-add-mod', mod-lt, div-lt_iff_lt-mul, add-one, arith}
use Rattle.std.proofs.Math.Decide.{dec_lt}
use Rattle.std.proofs.lemmas.List.{length-replicate}
use Rattle.table_words.specs.Sizes.{tips_most, nodes_most, node_room}
use Rattle.sums.specs.Bits.{bit}
use Rattle.sums.specs.theorems.ListLaws.{in_front_is}
use Rattle.sums.specs.theorems.BitLaws.{bit_no}
use Rattle.sums.specs.theorems.Products.{bit_and}
use Rattle.sums.specs.theorems.TestLaws.{lt_iff}
use Rattle.shapes.specs.Ancestors.{anc}
use Rattle.shapes.specs.theorems.Totals.{total}
use Rattle.tree_check.specs.Table.{Table, word, tips, nodes, parent, node_of, beyond}
use Rattle.tree_check.specs.lemmas.TableParts.{table_of, tips_of_lem, nodes_of_lem}
use Rattle.walks.specs.theorems.NodeLabels.{node_at}
use Rattle.walks.specs.theorems.SpanLaws.{in_span, SpansOf, listed_span}
use Rattle.walks.specs.lemmas.SpanLists.{Spanned, spans_listed}
use Rattle.walks.specs.lemmas.TreeArrays.{TreeArrays, parent_is, label_is, few_tips, few_nodes, rooted_parents}
use Rattle.tree_pairs.specs.lemmas.Grid.{cell_at}
use Rattle.marks.specs.Marks.{is_kept}
use Rattle.counting.specs.Kept.{kept}
use Rattle.counting.proofs.theorems.KeptLaws.{kept-rising}
use Rattle.tree_pairs.specs.Crossings.{edge_crossing, crossed, cell_of}
use Rattle.tree_pairs.proofs.theorems.Bytes.{cells_are_bytes}
use Rattle.tree_pairs.specs.lemmas.CrossingTotals.{kept_beyond}
use Rattle.tree_pairs.proofs.lemmas.CrossingTotals.{crossing-total}
use Rattle.tree_pairs.specs.lemmas.TipRows.{counted_label, TipRoom, TipRows}
use Rattle.tree_pairs.specs.lemmas.RowsUp.{Room, RowsAdded}
use Rattle.tree_pairs.specs.lemmas.Filling.{PairArrays}

-- what holds of the second table's edges holds of the width that code reads, and back
module _ (P : ℕ → Type 0) (u : Table) (m : ℕ) (e : m ≡ word u 1) where
  width_is : m - 1 ≡ nodes u - 1
  unfolding nodes
  width_is = ap (λ (k : ℕ). k - 1) e

  pub to_width : P (nodes u - 1) → P (m - 1)
  to_width h = subst P (sym width_is) h

  pub of_width : P (m - 1) → P (nodes u - 1)
  of_width h = subst P width_is h

-- only node 1 has the parent 0
inner_parents : (n : ℕ) (ps ls : List ℕ) → TreeArrays n ps ls → (v : ℕ) → 2 ≤ v → v < length ps → 1 ≤ word ps v
inner_parents n ps ls a v l m = omega (
  arith,
  ap (λ (f : ℕ → ℕ). f v) (parent_is n ps ls a),
  a.tree.parents_range v l (omega (arith, nodes_of_lem n ps ls)),
)

-- what counts at tips alone
of_tips : (y n p q : ℕ) → (y < n → p ≡ q) → bit (ltb y n) * p ≡ bit (ltb y n) * q
of_tips y n p q h = elim (dec_lt y n) [
  | yes l ↦ ap (λ (z : ℕ). bit (ltb y n) * z) (h l)
  | no m ↦ rw (bit_no (ltb y n) (λ b. m ((lt_iff y n).0 b))) (omega arith)
]

counted_parts : (ks : List ℕ) (n y p : ℕ) → bit (counted_label ks n y) * p ≡ bit (ltb y n) * (bit (is_kept ks y) * p)
unfolding counted_label
counted_parts ks n y p =
    ap (λ (z : ℕ). z * p) (bit_and (is_kept ks y) (ltb y n)) ∙ regroup (bit (is_kept ks y)) (bit (ltb y n)) p
  where
    regroup : (x z p : ℕ) → x * z * p ≡ z * (x * p)
    regroup x z p = omega arith

module _ (n : ℕ) (ps ls : List ℕ) (u : Table) (work : List ℕ) (a : PairArrays n ps ls u work) where
  pub sizes : (2 ≤ length ps) × (length ps ≤ nodes_most) × (2 ≤ nodes u) × (nodes u ≤ nodes_most) × (length ls ≡ length ps)
  sizes =
      let p = few_nodes n ps ls a.first in
      let g = a.second in
      (omega arith, omega arith, omega (arith, g.tips_range, g.nodes_range), omega (arith, g.tips_range, g.nodes_range), a.first.same)

  -- the lists of the second table's spans, as code lends them
  pub listed : (k : ℕ) (labelled begin end : List ℕ)
      → Spanned u (replicate tips_most 0) (replicate node_room 0) (replicate node_room 0) k labelled begin end
      → SpansOf u labelled begin end
  listed = spans_listed u (replicate tips_most 0) (replicate node_room 0) (replicate node_room 0) a.second
      (omega (arith, a.second.tips_range, length-replicate {A = ℕ} tips_most 0))
      (omega (arith, sizes, length-replicate {A = ℕ} node_room 0))
      (omega (arith, sizes, length-replicate {A = ℕ} node_room 0))

  -- a node but node 0 has a label but 0
  label-not-zero : (v : ℕ) → 1 ≤ v → v < length ls → word ls v < n → word ls v ≢ 0
  label-not-zero v l m b z =
      let t = table_of n ps ls in
      let g = a.first.tree in
      let s = g.once 0 (omega (arith, few_tips n ps ls a.first, tips_of_lem n ps ls)) in
      let e = label_is n ps ls a.first in
      let at0 = s.only 0 (omega (arith, sizes, nodes_of_lem n ps ls)) g.root_label in
      let atv = s.only v (omega (arith, sizes, nodes_of_lem n ps ls)) (ap (λ (f : ℕ → ℕ). f v) e ∙ z) in
      omega (arith, at0, atv)

  module _ (labelled begin end : List ℕ) (f : SpansOf u labelled begin end) where
    pub tip_room : TipRoom ls n (nodes u - 1) labelled work
    tip_room =
        let s = sizes in
        let same : (length ls - 1) * (nodes u - 1) ≡ (length ps - 1) * (nodes u - 1) =
        ap (λ (k : ℕ). (k - 1) * (nodes u - 1)) a.first.same in
        record {
          narrow = omega (arith, s);
          rows = (omega (arith, s), omega (arith, s));
          tips = omega (arith, few_tips n ps ls a.first);
          node = λ x l. omega (
            arith,
            f.node x (omega (arith, a.tips_are)),
            (node_at u a.second x (omega (arith, a.tips_are))).0,
            s,
          );
          inside = omega (arith, same, a.room);
        }

    module _ (ks marked : List ℕ) (r : TipRows ls ks n (nodes u - 1) labelled begin end (length ls) work marked) where
      -- column j of the filled rows
      column : (j x : ℕ) → j < nodes u - 1 → 1 ≤ x → x < length ps
          → cell_at marked (nodes u - 1) x j ≡ kept_beyond (is_kept ks) (table_of n ps ls) u (suc j) x
      unfolding beyond
      column j x lj l m =
          r.rows x j l (omega (arith, sizes)) lj
          ∙ counted_parts ks n (word ls x) _
          ∙ of_tips (word ls x) n _ _ (λ b. ap (λ (k : ℕ). bit (is_kept ks (word ls x)) * k) (spanned b))
          ∙ rw (label_is n ps ls a.first, tips_of_lem n ps ls) refl
        where
          spanned : word ls x < n
              → bit (in_span (word begin (word labelled (word ls x))) (word begin (j + 1)) (word end (j + 1)))
              ≡ bit (anc (parent u) (suc j) (node_of u (word ls x)))
          spanned b =
              ap (λ (i : ℕ). bit (in_span (word begin (word labelled (word ls x))) (word begin i) (word end i))) (add-one j)
              ∙ listed_span u a.second labelled begin end f (word ls x) (suc j) (omega (arith, a.tips_are))
              (label-not-zero x l (omega (arith, sizes)) b) (omega arith) (omega arith)

      -- a column's totals are the crossings
      column_total : (v j : ℕ) → 1 ≤ v → j < nodes u - 1
          → total (word ps) (length ps) (λ x. cell_at marked (nodes u - 1) x j) v
          ≡ edge_crossing (kept ks (tips (table_of n ps ls))) (table_of n ps ls) u v (suc j)
      column_total v j l lj =
          ap₂ (λ (up : ℕ → ℕ) (k : ℕ). total up k (λ x. cell_at marked (nodes u - 1) x j) v)
          (sym (parent_is n ps ls a.first)) (sym (nodes_of_lem n ps ls))
          ∙ crossing-total (is_kept ks) (table_of n ps ls) u a.first.tree v (suc j) l _
          (λ x l m. column j x lj l (omega (arith, nodes_of_lem n ps ls)))

      pub rows_room : Room ps marked (nodes u - 1)
      rows_room =
          let s = sizes in
          record {
            tree = rooted_parents n ps ls a.first;
            some = omega arith;
            few = omega arith;
            inner = inner_parents n ps ls a.first;
            narrow = omega arith;
            inside = omega (arith, a.room, r.long);
            fits = λ v j l m lj. omega (
              arith,
              column_total v j l lj,
              cells_are_bytes (kept ks (tips (table_of n ps ls))) (table_of n ps ls) u a.first.tree
                  (kept-rising ks (tips (table_of n ps ls))) v (suc j) l,
            );
          }

      -- all of it
      pub filled : (new : List ℕ) → RowsAdded ps marked new (nodes u - 1)
          → new ≡ crossed (kept ks (tips (table_of n ps ls))) (table_of n ps ls) u work
      unfolding crossed
      filled new h = rw (nodes_of_lem n ps ls) (
          in_front_is ((length ps - 1) * (nodes u - 1)) (cell_of (kept ks (tips t)) t u) work new
          (h.long ∙ r.long) a.room front back)
        where
          t : Table
          t = table_of n ps ls

          back : (i : ℕ) → (length ps - 1) * (nodes u - 1) ≤ i → word new i ≡ word work i
          back i l =
              h.tail i l ∙ r.rest i (rw a.first.same l)

          place : (i w : ℕ) → i ≡ (suc (i / w) - 1) * w + i % w
          place i w = sym (ap (λ (k : ℕ). k * w + i % w) (one_more (i / w)) ∙ div-add-mod' i w)
            where
              one_more : (k : ℕ) → suc k - 1 ≡ k
              one_more k = omega arith

          front : (i : ℕ) → i < (length ps - 1) * (nodes u - 1) → word new i ≡ cell_of (kept ks (tips t)) t u i
          front i l =
              let w = nodes u - 1 in
              let s = sizes in
              let row = (div-lt_iff_lt-mul {k = w} {x = i} {y = length ps - 1} (omega arith)).1 l in
              let column = mod-lt i {m = w} (omega arith) in
              ap (word new) (place i w)
              ∙ h.totals (suc (i / w)) (i % w) (omega arith) (omega arith) column
              ∙ column_total (suc (i / w)) (i % w) (omega arith) column
              ∙ sym (unfold cell_of in refl)
