-- The arrays of a tree table are those of its shape.
-- Assumes nothing.
use Rattle.std.specs.Prelude.{◌≡◌, List, ℕ, zero, suc, ◌+◌, ◌*◌, ◌-◌, ◌≤◌, ◌<◌, length, take, drop}
use Rattle.std.proofs.Math.Path.{refl}
use Rattle.std.proofs.Common.{sym, ◌∙◌}
use Rattle.std.proofs.Math.Nat.{mul-le-mul}
use native.Mathlib.Omega.{arith}
use Rattle.table_words.specs.Sizes.{nodes_most}
use Rattle.sums.specs.Bits.{bit}
use Rattle.sums.specs.theorems.SumLaws.{sum-ge, sum_mono, sum_const}
use Rattle.sums.specs.theorems.BitLaws.{ne, bit_le}
use Rattle.sums.specs.theorems.Products.{sum-ne}
use Rattle.shapes.specs.theorems.Shape.{Shape}
use Rattle.tree_check.specs.Table.{Table, word, tips, nodes, parents, parent, beyond}
use Rattle.tree_check.specs.IsTree.{IsTree}
use Rattle.tree_check.specs.lemmas.TableParts.{parents-length, to_parts, of_parts}
use Rattle.tree_check.specs.lemmas.Sized.{Sized}
use Rattle.walks.specs.Walk.{below}
use Rattle.walks.specs.theorems.SpanLaws.{SpansOf, start_after}
use Rattle.walks.specs.lemmas.SpanLists.{Spanned, spans_listed}
use Rattle.counting.proofs.theorems.TreeShape.{shape_of}
use Rattle.counting.proofs.theorems.TreeSplits.{labelled, zero_here}
use Rattle.exchanges.proofs.theorems.Steps as steps
use Rattle.exchanges.specs.theorems.ExchangedTables.{shape}
use Rattle.exchange_distances.specs.lemmas.SpanSizes.{SpansFit, SpanSizes}
use Rattle.exchange_distances.specs.lemmas.WalkArrays.{ShapeSizes, Squared, Reads, WalkedArrays}
use Rattle.exchange_distances.specs.lemmas.SquareLoops.{Sizing}

-- what the code has read of a table
pub record Arrays (t : Table) (nodes bs qs : List ℕ) : Type 0 where
  pub reads : (g : IsTree t) → Reads (tips t) (parents t) nodes bs qs (shape t g)

module _ (t : Table) (g : IsTree t) where
  -- some label is at or below a node, and but for node 0 not all are
  below_some : (v : ℕ) → v < nodes t → 1 ≤ steps.labels_below (shape t g) v
  unfolding shape_of beyond
  below_some v l =
      let r = labelled t g (nodes t) v l (omega arith) in
      omega (arith, r.2, sum-ge (tips t) (λ a. bit (beyond t v a)) r.0 r.1)

  below_not-all : (v : ℕ) → 1 ≤ v → steps.labels_below (shape t g) v + 1 ≤ tips t
  unfolding shape_of beyond
  below_not-all v l =
      let few = g.tips_range in
      omega (
        arith,
        sum-ne (tips t) 0 (λ a. bit (beyond t v a)) (omega arith),
        sum-ne (tips t) 0 (λ a. 1) (omega arith),
        zero_here t g v l,
        sum_mono (tips t) (λ a. ne 0 a * bit (beyond t v a)) (λ a. ne 0 a * 1)
            (λ a la. low (ne 0 a) (bit (beyond t v a)) (bit_le (beyond t v a))),
        sum_const (tips t) 1,
      )
    where
      low : (i b : ℕ) → b ≤ 1 → i * b ≤ i * 1
      low i b l = let r : i ≤ i = omega arith in mul-le-mul r l

  few_nodes : (2 ≤ nodes t) × (nodes t ≤ nodes_most)
  few_nodes = omega (arith, g.tips_range, g.nodes_range)

  edges_are : suc (nodes t - 1) ≡ length (parents t)
  edges_are = omega (arith, parents-length t g.words, few_nodes)

  module _ (labels begin end : List ℕ) (h : SpansOf t labels begin end) where
    pub spans_fit : (size : List ℕ) → length size ≡ 1024 → SpansFit (nodes t) begin end size
    spans_fit size e = record {
      few = omega (arith, few_nodes);
      long = e;
      rising = λ v lv l. omega (arith, h.begins v l, h.ends v l);
    }

    -- the span of a node is as long as there are labels at or below it
    size_is : (size : List ℕ) → SpanSizes (tips t) (nodes t) begin end size → (v : ℕ) → v < nodes t
        → word size v ≡ steps.labels_below (shape t g) v
    size_is size z zero l = z.first ∙ sym (steps.below_root (shape t g))
    size_is size z (suc v) l = omega (
      arith,
      z.later (suc v) (omega arith) l,
      h.begins (suc v) l,
      h.ends (suc v) l,
      start_after t g (suc v) (omega arith),
      same (suc v),
    )
      where
        same : (v : ℕ) → below t v ≡ steps.labels_below (shape t g) v
        same v = unfold shape_of below beyond in refl

    pub table_sizes : (size : List ℕ) → SpanSizes (tips t) (nodes t) begin end size
        → ShapeSizes (tips t) (parents t) size (shape t g)
    table_sizes size z = record {
      up = λ v. unfold shape_of parent in refl;
      edges = unfold shape_of in edges_are;
      sizes = λ v l. unfold shape_of in size_is size z v (omega (arith, few_nodes));
      some = λ v l. unfold shape_of in below_some v (omega (arith, few_nodes));
      not_all = below_not-all;
    }

    pub table_sizing : (size : List ℕ) → SpanSizes (tips t) (nodes t) begin end size → Sizing (tips t) (parents t) size
    table_sizing size z = record {
      shape = shape t g;
      sized = table_sizes size z;
      tips = g.tips_range.1;
      nodes = omega (arith, edges_are, few_nodes);
    }

    pub table_reads : (size square : List ℕ) → SpanSizes (tips t) (nodes t) begin end size
        → ((s : Shape (tips t)) → ShapeSizes (tips t) (parents t) size s → Squared (tips t) (parents t) size square s)
        → Reads (tips t) (parents t) labels size square (shape t g)
    table_reads size square z q = record {
      squared = q (shape t g) (table_sizes size z);
      node = λ x l. unfold shape_of in h.node x l;
    }

  pub table_walked : (labels size square : List ℕ) → Arrays t labels size square
      → WalkedArrays (tips t) (parents t) labels size square
  table_walked labels size square a = record {
    shape = shape t g;
    reads = a.reads g;
    tips = g.tips_range;
    nodes_few = omega (arith, edges_are, few_nodes);
  }

-- ---- with n, m and the parents as code lends them

module _ (t : Table) (n m : ℕ) (h : Sized t n m) where
  pub lent_spans : (labels begin end : List ℕ) → length labels ≡ 256 → (k : ℕ) (labels-now begin-now end-now : List ℕ)
      → length begin ≡ 1024 → length end ≡ 1024
      → Spanned t labels begin end k labels-now begin-now end-now → SpansOf t labels-now begin-now end-now
  lent_spans labels begin end e k labels-now begin-now end-now b d =
      spans_listed t labels begin end h.tree (omega (arith, h.tree.tips_range)) (omega (arith, few_nodes t h.tree))
      (omega (arith, few_nodes t h.tree)) k labels-now begin-now end-now

  module _ (labels begin end : List ℕ) (s : SpansOf t labels begin end) where
    pub lent_fit : (size : List ℕ) → length size ≡ 1024 → SpansFit m begin end size
    lent_fit size e = rw h.nodes_are (spans_fit t h.tree labels begin end s size e)

    here : (size : List ℕ) → SpanSizes n m begin end size → SpanSizes (tips t) (nodes t) begin end size
    here size z = rw (h.tips_are, h.nodes_are) at z

    pub lent_sizing : (size : List ℕ) → SpanSizes n m begin end size → Sizing n (take (2 + m - 2) (drop 2 t)) size
    lent_sizing size z = to_parts (λ n ps ls. Sizing n ps size) t n m h.tree.words h.tips_are h.nodes_are
        (table_sizing t h.tree labels begin end s size (here size z))

    pub lent_arrays : (size : List ℕ) → SpanSizes n m begin end size → (square : List ℕ)
        → ((s : Shape n) → ShapeSizes n (take (2 + m - 2) (drop 2 t)) size s → Squared n (take (2 + m - 2) (drop 2 t)) size square s)
        → Arrays t labels size square
    lent_arrays size z square q = record {
      reads = λ g. table_reads t g labels begin end s size square (here size z)
          (of_parts (λ n ps ls. (s : Shape n) → ShapeSizes n ps size s → Squared n ps size square s) t n m h.tree.words
          h.tips_are h.nodes_are q);
    }
