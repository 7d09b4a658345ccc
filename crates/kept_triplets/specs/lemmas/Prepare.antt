-- The sums of two tables, once their spans and places are found.
-- Assumes nothing.
use Rattle.std.specs.Prelude.{◌≡◌, refl, List, ℕ, ◌+◌, ◌*◌, ◌-◌, ◌≤◌}
use Rattle.std.proofs.Common.{sym, ◌∙◌, ap, subst, arith}
use Rattle.table_words.specs.Sizes.{node_room, cell_most}
use Rattle.sums.specs.Sum.{sum}
use Rattle.sums.specs.Counts.{count}
use Rattle.sums.specs.theorems.ThreesLaws.{threes}
use Rattle.tree_check.specs.Table.{Table, word, tips, nodes}
use Rattle.tree_check.specs.IsTree.{IsTree}
use Rattle.counting.specs.declared.Case.TheVariants.{A, B, C, D, E}
use Rattle.counting.specs.Kept.{is_other, others}
use Rattle.counting.specs.Triplets.{triplets_over}
use Rattle.counting.specs.theorems.KeptTripletSums.{size_over, alike_over, apart_over}
use Rattle.counting.proofs.theorems.KeptTripletSums.{total}
use Rattle.kept_triplets.specs.lemmas.Places.{SpanLists, PlacesTo, Prefixed, all_others, column_is}
use Rattle.kept_triplets.specs.lemmas.Edges.{adds_at, ListedEdges, SizesOf, ListedSums, edge_listed, NodeSums, node_sums, listed_sums, listed_node, listed_few, listed_enough, edge_sum_lem}
use Rattle.kept_triplets.specs.lemmas.Rows.{Prepared}
use Rattle.kept_triplets.specs.lemmas.AllRows.{RowsListed, edges_are, edges_are', alike_are, apart_are}

pub record Unprepared (t u : Table) (marks : List ℕ) (n m k : ℕ) (fb fe sb se at back : List ℕ) : Type 0 where
  pub tree : IsTree t
  pub tree' : IsTree u
  pub same : tips t ≡ tips u
  pub tips_are : n ≡ tips t
  pub nodes_are : m ≡ nodes t
  pub nodes_are' : k ≡ nodes u
  pub spans : SpanLists t fb fe
  pub spans' : SpanLists u sb se
  -- the places of the first walk in the order of the second, and the other way round
  pub places : PlacesTo (tips t) t u marks fb sb at
  pub places' : PlacesTo (tips u) u t marks sb fb back

-- what the sums say of the triplets over the other kept labels
pub record KeptSumsAre (t u : Table) (marks : List ℕ) (first second alike apart number : ℕ) : Type 0 where
  pub first_is : first ≡ 2 * (triplets_over (others marks 0 (tips t)) t u A + triplets_over (others marks 0 (tips t)) t u B
      + triplets_over (others marks 0 (tips t)) t u C)
  pub second_is : second ≡ 2 * (triplets_over (others marks 0 (tips t)) t u A + triplets_over (others marks 0 (tips t)) t u B
      + triplets_over (others marks 0 (tips t)) t u D)
  pub alike_is : alike ≡ 2 * triplets_over (others marks 0 (tips t)) t u A
  pub apart_is : apart ≡ triplets_over (others marks 0 (tips t)) t u B
  pub number_is : number ≡ count (tips t) (is_other marks 0)
  pub all_are : triplets_over (others marks 0 (tips t)) t u A + triplets_over (others marks 0 (tips t)) t u B
      + triplets_over (others marks 0 (tips t)) t u C + triplets_over (others marks 0 (tips t)) t u D
      + triplets_over (others marks 0 (tips t)) t u E ≡ threes (count (tips t) (is_other marks 0))

module _ (t u : Table) (marks : List ℕ) (n m k : ℕ) (fb fe sb se at back : List ℕ)
    (h : Unprepared t u marks n m k fb fe sb se at back) where
  pub sizes_fit : (2 ≤ n) × (n ≤ 256) × (2 ≤ k) × (k ≤ node_room)
  sizes_fit = let g = h.tree in let g' = h.tree' in
      omega (arith, h.tips_are, h.nodes_are', h.same, g.tips_range, g'.tips_range, g'.nodes_range)

  -- the totals of all places are the kept labels beyond the nodes
  pub first_sizes : (all : List ℕ) → Prefixed back 0 cell_most (n - 1) all → SizesOf t marks (tips t) fb fe all
  first_sizes all o = record {
    size = λ j pj lj. subst (λ (x : ℕ). (word all (word fe j) - word all (word fb j) ≡ size_over marks x t j)
        × (word all (word fb j) ≤ word all (word fe j))) (sym h.same)
        (column_is u t h.tree' h.tree (sym h.same) marks sb se fb fe back h.spans' h.spans h.places' j pj lj all
        (subst (λ (x : ℕ). Prefixed back 0 cell_most (x - 1) all) (h.tips_are ∙ h.same) o));
  }

  pub second_sizes : (all : List ℕ) → Prefixed at 0 cell_most (n - 1) all → SizesOf u marks (tips t) sb se all
  second_sizes all o = record {
    size = λ j pj lj.
        column_is t u h.tree h.tree' h.same marks fb fe sb se at h.spans h.spans' h.places j pj lj all
        (subst (λ (x : ℕ). Prefixed at 0 cell_most (x - 1) all) h.tips_are o);
  }

  module _ (all : List ℕ) (o : Prefixed back 0 cell_most (n - 1) all) where
    pub first-nodes : NodeSums all fb fe t m
    first-nodes = node_sums t h.tree marks (tips t) refl fb fe all (first_sizes all o) m h.nodes_are

    module _ (rows : List ℕ) (c : ℕ) (l : ListedEdges (m - 2) c (adds_at all fb fe t) rows) where
      l' : ListedEdges (nodes t - 2) c (adds_at all fb fe t) rows
      l' = subst (λ (x : ℕ). ListedEdges (x - 2) c (adds_at all fb fe t) rows) h.nodes_are l

      pub first-listed : ListedSums all fb fe t rows c
      first-listed = listed_sums t h.tree marks (tips t) refl fb fe all (first_sizes all o) rows c l'

      pub rows_listed : RowsListed t u marks rows c
      rows_listed = record {
        few = listed_few t h.tree marks (tips t) refl fb fe all (first_sizes all o) rows c l';
        row = listed_node t h.tree marks (tips t) refl fb fe all (first_sizes all o) rows c l';
        enough = listed_enough t h.tree marks (tips t) refl fb fe all (first_sizes all o) rows c l';
      }

      pub first_edges : sum c (edge_listed all fb fe t rows)
          ≡ 2 * (triplets_over (others marks 0 (tips t)) t u A + triplets_over (others marks 0 (tips t)) t u B
          + triplets_over (others marks 0 (tips t)) t u C)
      first_edges = edge_sum_lem t h.tree marks (tips t) refl fb fe all (first_sizes all o) rows c l'
          ∙ edges_are marks t u h.tree h.tree' h.same

  module _ (all : List ℕ) (o : Prefixed at 0 cell_most (n - 1) all) where
    pub second_nodes : NodeSums all sb se u k
    second_nodes = node_sums u h.tree' marks (tips t) h.same sb se all (second_sizes all o) k h.nodes_are'

    pub others_are : word all (n - 1) ≡ count (tips t) (is_other marks 0)
    others_are = ap (λ (x : ℕ). word all (x - 1)) h.tips_are
        ∙ all_others t u h.tree h.tree' h.same marks fb fe sb se at h.spans h.spans' h.places all
        (subst (λ (x : ℕ). Prefixed at 0 cell_most (x - 1) all) h.tips_are o)

    module _ (columns : List ℕ) (c : ℕ) (l : ListedEdges (k - 2) c (adds_at all sb se u) columns) where
      k' : ListedEdges (nodes u - 2) c (adds_at all sb se u) columns
      k' = subst (λ (x : ℕ). ListedEdges (x - 2) c (adds_at all sb se u) columns) h.nodes_are' l

      pub second_listed : ListedSums all sb se u columns c
      second_listed = listed_sums u h.tree' marks (tips t) h.same sb se all (second_sizes all o) columns c k'

      pub prepared : Prepared t u marks n fb fe sb se at columns c
      prepared = record {
        tree = h.tree;
        tree' = h.tree';
        same = h.same;
        tips_are = h.tips_are;
        spans = h.spans;
        spans' = h.spans';
        places = h.places;
        few = listed_few u h.tree' marks (tips t) h.same sb se all (second_sizes all o) columns c k';
        column = listed_node u h.tree' marks (tips t) h.same sb se all (second_sizes all o) columns c k';
        enough = listed_enough u h.tree' marks (tips t) h.same sb se all (second_sizes all o) columns c k';
      }

      pub second_edges : sum c (edge_listed all sb se u columns)
          ≡ 2 * (triplets_over (others marks 0 (tips t)) t u A + triplets_over (others marks 0 (tips t)) t u B
          + triplets_over (others marks 0 (tips t)) t u D)
      second_edges = edge_sum_lem u h.tree' marks (tips t) h.same sb se all (second_sizes all o) columns c k'
          ∙ edges_are' marks t u h.tree h.tree' h.same

  pub sums_are : (first second alike apart number : ℕ)
      → first ≡ 2 * (triplets_over (others marks 0 (tips t)) t u A + triplets_over (others marks 0 (tips t)) t u B
      + triplets_over (others marks 0 (tips t)) t u C)
      → second ≡ 2 * (triplets_over (others marks 0 (tips t)) t u A + triplets_over (others marks 0 (tips t)) t u B
      + triplets_over (others marks 0 (tips t)) t u D)
      → alike ≡ sum (nodes t - 2) (λ i. sum (nodes u - 2) (λ j. alike_over marks (tips t) t u (i + 2) (j + 2)))
      → apart ≡ sum (nodes t - 2) (λ i. sum (nodes u - 2) (λ j. apart_over marks (tips t) t u (i + 2) (j + 2)))
      → number ≡ count (tips t) (is_other marks 0) → KeptSumsAre t u marks first second alike apart number
  sums_are first second alike apart number ef es ea ep en =
      let g = h.tree in let g' = h.tree' in let e = h.same in record {
        first_is = ef;
        second_is = es;
        alike_is = ea ∙ alike_are marks t u g g' e;
        apart_is = ep ∙ apart_are marks t u g g' e;
        number_is = en;
        all_are = total marks t u g g' e;
      }
