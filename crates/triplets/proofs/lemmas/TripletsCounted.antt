-- The triplets of two trees, counted in the cells.
-- Assumes nothing.
use Rattle.std.specs.Prelude.{◌≡◌, ◌&&◌, ◌≢◌, List, ℕ, zero, suc, ◌+◌, ◌*◌, ◌-◌, ◌≤◌, ◌<◌}
use Rattle.std.proofs.Math.Path.{refl, sym, ap, ap₂}
use Rattle.std.proofs.Common.{◌∙◌, add-one, arith}
use Rattle.std.proofs.Math.ListN.{length}
use Rattle.table_words.specs.Sizes.{nodes_most}
use Rattle.sums.specs.Sum.{sum}
use Rattle.sums.specs.theorems.SumLaws.{sum_ext, sum_cong, sum_mono}
use Rattle.sums.specs.Counts.{count}
use Rattle.sums.specs.theorems.CountLaws.{count-le}
use Rattle.sums.specs.theorems.Matchings.{count_mono}
use Rattle.sums.specs.theorems.TestLaws.{and-iff}
use Rattle.sums.specs.theorems.Products.{bit_and}
use Rattle.sums.specs.theorems.ThreesLaws.{threes}
use Rattle.shapes.specs.Ancestors.{anc}
use Rattle.shapes.proofs.theorems.LowestAncestors.{leaves_once}
use Rattle.shapes.specs.theorems.Shape.{Shape}
use Rattle.shapes.specs.theorems.TripletCounts.{Outgroup}
use Rattle.shapes.proofs.theorems.TripletCounts.{leave_both, leave_first, leave_second}
use Rattle.shapes.specs.theorems.TripletCounts.{edge_term}
use Rattle.shapes.proofs.theorems.TripletCounts.{TripletSums, triplet_sums, beyond_both}
use Rattle.tree_check.specs.Table.{Table, word, tips, nodes, parents, parent, beyond, node_of}
use Rattle.tree_check.specs.IsTree.{IsTree}
use Rattle.tree_check.specs.Refusals.{refusal}
use Rattle.tree_check.specs.theorems.RefusalLaws.{if_accepted_lem, if_refused}
use Rattle.tree_check.specs.lemmas.TableParts.{parents-length}
use Rattle.tree_check.specs.theorems.RootedTables.{rooted}
use Rattle.counting.specs.Labels.{all}
use Rattle.counting.specs.SplitCounts.{beyond_at}
use Rattle.counting.proofs.theorems.LabelLaws.{all-rising, all_of}
use Rattle.counting.specs.declared.Case.TheVariants.{A, B, C, D, E}
use Rattle.counting.specs.Triplets.{triplets}
use Rattle.counting.proofs.theorems.TreeShape.{shape_of}
use Rattle.counting.proofs.theorems.TripletTheorem.{outgroup, triplets_in_shapes, triplets-total, all-triplets}
use Rattle.pair_check.specs.PairOrder.{PairWithCells, cells_order}
use Rattle.pair_check.specs.theorems.PairCheck.{cells_check}
use Rattle.tree_pairs.specs.Crossings.{edge_crossing, crossed_all}
use Rattle.tree_pairs.proofs.theorems.CrossingLaws.{cell_of_edges, cell_inside, crossed-length}
use Rattle.tree_pairs.proofs.lemmas.CellSizes.{row_cell, column_cell}
use Rattle.triplets.specs.TripletAnswer.{triplets_of_pair, refused_triplets, triplet_answer}
use Rattle.tree_pairs.specs.lemmas.EdgeRows.{above_in, row_size}
use Rattle.tree_pairs.proofs.lemmas.EdgeRows.{earlier_parents, row_above}
use Rattle.tree_pairs.proofs.lemmas.EdgeRows.{size_above_row, size_of_column, size_above_column}
use Rattle.triplets.specs.lemmas.EdgeSums.{SizeCells, edge_sum}
use Rattle.triplets.specs.lemmas.PairCells.{Nested, CrossedCells, pair_cell, alike_cell, apart_cell, alike_row, triplets_apart_row, alike_sum, apart_sum}
use Rattle.triplets.proofs.lemmas.ListedRows.{nested_read, alike_read, apart_read}
use Rattle.triplets.specs.lemmas.FormedTriplets.{formed_triplets, TripletsFit}
use Rattle.triplets.proofs.lemmas.FormedTriplets.{formed_is}
use Rattle.triplets.specs.lemmas.TripletsCounted.{Countable, triplets_counted}

-- ---- what the code counts, and what it asks

-- the table is formed from the four sums
module _ (work : List ℕ) (n : ℕ) (ps qs : List ℕ) (a b c d : ℕ) (ea : a ≡ edge_sum work (length qs - 1) ps)
    (eb : b ≡ edge_sum work 1 qs) (ec : c ≡ alike_sum work ps qs) (ed : d ≡ apart_sum work ps qs) where
  pub sums_fit : Countable work n ps qs → TripletsFit n a b c d
  sums_fit h = rw (ea, eb, ec, ed) h.fits

  pub counted_is : formed_triplets n a b c d ≡ triplets_counted work n ps qs
  unfolding triplets_counted
  counted_is = rw (ea, eb, ec, ed) refl

-- there is room to list the columns
-- ---- the cells of two tables

module _ (t u : Table) (work : List ℕ) (p : PairWithCells t u (length work)) where
  g : IsTree t
  g = p.pair.first

  h : IsTree u
  h = p.pair.second

  e : tips t ≡ tips u
  e = p.pair.same_tips

  abbrev first : Shape (tips t)
  first = shape_of t g (all (tips t)) (all_of (tips t) (tips t) refl)

  abbrev second : Shape (tips t)
  second = shape_of u h (all (tips t)) (all_of (tips t) (tips u) (sym e))

  abbrev cells : List ℕ
  cells = crossed_all t u work

  long : length (parents t) ≡ nodes t
  long = parents-length t g.words

  long' : length (parents u) ≡ nodes u
  long' = parents-length u h.words

  few : (2 ≤ nodes t) × (nodes t ≤ nodes_most) × (2 ≤ nodes u) × (nodes u ≤ nodes_most)
  few =
      let a = g.tips_range in
      let b = g.nodes_range in
      let c = h.tips_range in
      let d = h.nodes_range in
      (omega arith, omega arith, omega arith, omega arith)

  -- the crossing of two edges
  both_is : (i j : ℕ) → edge_crossing (all (tips t)) t u i j ≡ beyond_both first second i j
  unfolding edge_crossing beyond beyond_at shape_of
  both_is i j = sum_cong (tips t) (λ x. bit_and (anc (parent t) i (node_of t x)) (anc (parent u) j (node_of u x)))

  cell_is : (i l : ℕ) → i < nodes t - 1 → l < nodes u - 1
      → pair_cell cells (parents u) i l ≡ beyond_both first second (suc i) (suc l)
  cell_is i l li ll = rw long' (cell_of_edges (all (tips t)) t u work i l li ll ∙ both_is (suc i) (suc l))

  -- ---- the parents' rows and columns

  up_first : (i : ℕ) → suc i < nodes t - 1 → (suc (above_in (parents t) (suc i)) ≡ first.up (suc (suc i)))
      × (above_in (parents t) (suc i) < nodes t - 1)
  unfolding shape_of
  up_first = row_above t g

  up_second : (l : ℕ) → suc l < nodes u - 1 → (suc (above_in (parents u) (suc l)) ≡ second.up (suc (suc l)))
      × (above_in (parents u) (suc l) < nodes u - 1)
  unfolding shape_of
  up_second = row_above u h

  cell_up_column : (i l : ℕ) → i < nodes t - 1 → suc l < nodes u - 1
      → pair_cell cells (parents u) i (above_in (parents u) (suc l)) ≡ beyond_both first second (suc i) (second.up (suc (suc l)))
  cell_up_column i l li ll =
      let r = up_second l ll in
      cell_is i (above_in (parents u) (suc l)) li r.1 ∙ ap (beyond_both first second (suc i)) r.0

  cell_up_row : (i l : ℕ) → suc i < nodes t - 1 → l < nodes u - 1
      → pair_cell cells (parents u) (above_in (parents t) (suc i)) l ≡ beyond_both first second (first.up (suc (suc i))) (suc l)
  cell_up_row i l li ll =
      let r = up_first i li in
      cell_is (above_in (parents t) (suc i)) l r.1 ll ∙ ap (λ (v : ℕ). beyond_both first second v (suc l)) r.0

  cell_up_both : (i l : ℕ) → suc i < nodes t - 1 → suc l < nodes u - 1
      → pair_cell cells (parents u) (above_in (parents t) (suc i)) (above_in (parents u) (suc l))
      ≡ beyond_both first second (first.up (suc (suc i))) (second.up (suc (suc l)))
  cell_up_both i l li ll =
      let r = up_first i li in
      let q = up_second l ll in
      cell_is (above_in (parents t) (suc i)) (above_in (parents u) (suc l)) r.1 q.1
      ∙ ap₂ (beyond_both first second) r.0 q.0

  -- ---- what the code asks of the cells

  root_first : Outgroup first
  root_first = outgroup t g (tips t) refl

  root_second : Outgroup second
  root_second = outgroup u h (tips t) (sym e)

  both_few : (i j : ℕ) → beyond_both first second i j ≤ 256
  both_few i j =
      rw (← both_is i j) (unfold edge_crossing beyond_at in
      omega (arith, count-le (tips t) (λ x. beyond t i x && beyond u j x), g.tips_range.1))

  nested : (i l : ℕ) → suc i < nodes t - 1 → suc l < nodes u - 1
      → Nested (pair_cell cells (parents u) (suc i) (suc l)) (pair_cell cells (parents u) (suc i) (above_in (parents u) (suc l)))
      (pair_cell cells (parents u) (above_in (parents t) (suc i)) (suc l))
      (pair_cell cells (parents u) (above_in (parents t) (suc i)) (above_in (parents u) (suc l)))
  nested i l li ll = nested_read _ _ _ _ _ _ _ _
      (cell_is (suc i) (suc l) li ll) (cell_up_column (suc i) l li ll) (cell_up_row i (suc l) li ll) (cell_up_both i l li ll)
      (record {
        in_row = omega (arith, leave_second first second root_first root_second i l);
        in_column = omega (arith, leave_first first second root_first root_second i l);
        in_whole = omega (arith, leave_both first second root_first root_second i l);
        few = both_few _ _;
      })

  -- a cell is at most the size of either edge
  in_first : (i j : ℕ) → edge_crossing (all (tips t)) t u i j ≤ count (tips t) (beyond t i)
  unfolding edge_crossing beyond_at
  in_first i j = count_mono (tips t) _ _ (λ x l y. ((and-iff (beyond t i x) (beyond u j x)).0 y).0)

  in_second : (i j : ℕ) → edge_crossing (all (tips t)) t u i j ≤ count (tips t) (beyond u j)
  unfolding edge_crossing beyond_at
  in_second i j = count_mono (tips t) _ _ (λ x l y. ((and-iff (beyond t i x) (beyond u j x)).0 y).1)

  row_size_is : (i : ℕ) → i < nodes t - 1 → word cells (i * (length (parents u) - 1)) ≡ count (tips t) (beyond t (suc i))
  unfolding beyond_at
  row_size_is i l = rw long' (row_cell (all (tips t)) t u g h e (all-rising (tips t)) work i l)

  column_size_is : (l : ℕ) → l < nodes u - 1 → word cells l ≡ count (tips t) (beyond u (suc l))
  unfolding beyond_at
  column_size_is l m = column_cell (all (tips t)) t u g h e (all-rising (tips t)) work l m

  pub crossed-cells : CrossedCells (crossed_all t u work) (parents t) (parents u)
  crossed-cells = record {
    first = earlier_parents t g;
    second = earlier_parents u h;
    inside = rw (long, long', crossed-length (all (tips t)) t u work p.room) p.room;
    row_most = λ i l li ll.
        omega (
          arith,
          cell_is i l (omega (arith, long)) (omega (arith, long')),
          both_is (suc i) (suc l),
          in_first (suc i) (suc l),
          row_size_is i (omega (arith, long)),
        );
    column_most = λ i l li ll.
        omega (
          arith,
          cell_is i l (omega (arith, long)) (omega (arith, long')),
          both_is (suc i) (suc l),
          in_second (suc i) (suc l),
          column_size_is l (omega (arith, long')),
        );
    nested = later;
  }
    where
      later : (i l : ℕ) → 1 ≤ i → i < length (parents t) - 1 → 1 ≤ l → l < length (parents u) - 1
          → Nested (pair_cell cells (parents u) i l) (pair_cell cells (parents u) i (above_in (parents u) l))
          (pair_cell cells (parents u) (above_in (parents t) i) l)
          (pair_cell cells (parents u) (above_in (parents t) i) (above_in (parents u) l))
      later zero l a b c d = absurd (omega arith)
      later (suc i) zero a b c d = absurd (omega arith)
      later (suc i) (suc l) a b c d = nested i l (omega (arith, long)) (omega (arith, long'))

  -- ---- sizes

  -- beyond an edge is beyond its parent's
  size_up : (s : Table) → IsTree s → (i : ℕ) → 1 ≤ i → count (tips t) (beyond s i) ≤ count (tips t) (beyond s (parent s i))
  unfolding beyond
  size_up s r i l = sum_mono (tips t) _ _ (λ x m.
      omega (arith, leaves_once (parent s) (rooted s r) i (node_of s x) l))

  size_few : (s : Table) (i : ℕ) → count (tips t) (beyond s i) ≤ 256
  size_few s i = omega (arith, count-le (tips t) (beyond s i), g.tips_range.1)

  first_up : (i : ℕ) → suc i < nodes t - 1
      → row_size cells (length (parents u) - 1) (above_in (parents t) (suc i)) ≡ count (tips t) (beyond t (parent t (suc (suc i))))
  unfolding beyond_at
  first_up i l = rw long' (size_above_row (all (tips t)) t u g h e (all-rising (tips t)) work i l)

  pub first_sizes : SizeCells (crossed_all t u work) (length (parents u) - 1) (parents t)
  first_sizes = record {
    room = record {
      parents = earlier_parents t g;
      narrow = omega (arith, long', few);
      inside = λ i l. rw (long', crossed-length (all (tips t)) t u work p.room) (inside i (omega (arith, long)));
    };
    low = low;
    most = λ i l. omega (arith, row_size_is i (omega (arith, long)), size_few t (suc i));
  }
    where
      inside : (i : ℕ) → i < nodes t - 1 → i * (nodes u - 1) < length work
      inside i l = omega (arith, cell_inside i 0 (nodes t - 1) (nodes u - 1) l (omega (arith, few)), p.room)

      low : (i : ℕ) → 1 ≤ i → i < length (parents t) - 1
          → row_size cells (length (parents u) - 1) i ≤ row_size cells (length (parents u) - 1) (above_in (parents t) i)
      low zero a b = absurd (omega arith)
      low (suc i) a b = omega (
        arith,
        row_size_is (suc i) (omega (arith, long)),
        first_up i (omega (arith, long)),
        size_up t g (suc (suc i)) (omega arith),
      )

  pub second_sizes : SizeCells (crossed_all t u work) 1 (parents u)
  unfolding beyond_at
  second_sizes = record {
    room = record {
      parents = earlier_parents u h;
      narrow = omega arith;
      inside = λ i l. rw (crossed-length (all (tips t)) t u work p.room) (inside i (omega (arith, long')));
    };
    low = low;
    most = λ i l. omega (arith, size_of_column (all (tips t)) t u g h e (all-rising (tips t)) work i (omega (arith, long')), size_few u (suc i));
  }
    where
      inside : (i : ℕ) → i < nodes u - 1 → i * 1 < length work
      inside i l = omega (arith, cell_inside 0 i (nodes t - 1) (nodes u - 1) (omega (arith, few)) l, p.room)

      low : (i : ℕ) → 1 ≤ i → i < length (parents u) - 1 → row_size cells 1 i ≤ row_size cells 1 (above_in (parents u) i)
      low zero a b = absurd (omega arith)
      low (suc i) a b = omega (
        arith,
        size_of_column (all (tips t)) t u g h e (all-rising (tips t)) work (suc i) (omega (arith, long')),
        size_above_column (all (tips t)) t u g h e (all-rising (tips t)) work i (omega (arith, long')),
        size_up u h (suc (suc i)) (omega arith),
      )

  -- ---- the sums are those of the shapes

  counts : TripletSums first second
  counts = triplet_sums first second root_first root_second

  one_more : (k : ℕ) (f : ℕ → ℕ) → sum k (λ i. f (i + 1)) ≡ sum k (λ i. f (suc i))
  one_more k f = sum_cong k (λ i. ap f (add-one i))

  first-sum : edge_sum cells (length (parents u) - 1) (parents t) ≡ 2 * (triplets t u A + triplets t u B + triplets t u C)
  unfolding edge_sum shape_of beyond beyond_at
  first-sum =
      let s = triplets_in_shapes t u g h e in
      one_more (length (parents t) - 2)
      (λ i. edge_term (row_size cells (length (parents u) - 1) i) (row_size cells (length (parents u) - 1) (above_in (parents t) i)))
      ∙ ap (λ (k : ℕ). sum k (λ i. edge_term (row_size cells (length (parents u) - 1) (suc i))
      (row_size cells (length (parents u) - 1) (above_in (parents t) (suc i))))) (omega (arith, long))
      ∙ sum_ext (nodes t - 1 - 1) _ _ (λ i l. ap₂ edge_term (row_size_is (suc i) (omega arith)) (first_up i (omega arith)))
      ∙ counts.first
      ∙ sym (rw (s A, s B, s C) refl)

  second_sum : edge_sum cells 1 (parents u) ≡ 2 * (triplets t u A + triplets t u B + triplets t u D)
  unfolding edge_sum shape_of beyond beyond_at
  second_sum =
      let s = triplets_in_shapes t u g h e in
      one_more (length (parents u) - 2)
      (λ i. edge_term (row_size cells 1 i) (row_size cells 1 (above_in (parents u) i)))
      ∙ ap (λ (k : ℕ). sum k (λ i. edge_term (row_size cells 1 (suc i)) (row_size cells 1 (above_in (parents u) (suc i)))))
      (omega (arith, long'))
      ∙ sum_ext (nodes u - 1 - 1) _ _ (λ i l. ap₂ edge_term (size_of_column (all (tips t)) t u g h e (all-rising (tips t)) work (suc i) (omega arith)) (size_above_column (all (tips t)) t u g h e (all-rising (tips t)) work i (omega arith)))
      ∙ counts.second
      ∙ sym (rw (s A, s B, s D) refl)

  alike_sum_lem : alike_sum cells (parents t) (parents u) ≡ 2 * triplets t u A
  unfolding alike_sum alike_row shape_of
  alike_sum_lem =
      let s = triplets_in_shapes t u g h e in
      one_more (length (parents t) - 2) (λ i. alike_row cells (parents t) (parents u) i)
      ∙ ap (λ (k : ℕ). sum k (λ i. alike_row cells (parents t) (parents u) (suc i))) (omega (arith, long))
      ∙ sum_ext (nodes t - 1 - 1) _ _ (λ i l.
      one_more (length (parents u) - 2) (λ k. alike_cell cells (parents t) (parents u) (suc i) k)
      ∙ ap (λ (m : ℕ). sum m (λ k. alike_cell cells (parents t) (parents u) (suc i) (suc k))) (omega (arith, long'))
      ∙ sum_ext (nodes u - 1 - 1) _ _ (λ k m. alike_read _ _ _ _ _ _ _ _
      (cell_is (suc i) (suc k) (omega arith) (omega arith)) (cell_up_column (suc i) k (omega arith) (omega arith))
      (cell_up_row i (suc k) (omega arith) (omega arith)) (cell_up_both i k (omega arith) (omega arith))))
      ∙ counts.alike
      ∙ sym (rw (s A) refl)

  apart_sum_lem : apart_sum cells (parents t) (parents u) ≡ triplets t u B
  unfolding apart_sum triplets_apart_row shape_of
  apart_sum_lem =
      let s = triplets_in_shapes t u g h e in
      one_more (length (parents t) - 2) (λ i. triplets_apart_row cells (parents t) (parents u) i)
      ∙ ap (λ (k : ℕ). sum k (λ i. triplets_apart_row cells (parents t) (parents u) (suc i))) (omega (arith, long))
      ∙ sum_ext (nodes t - 1 - 1) _ _ (λ i l.
      one_more (length (parents u) - 2) (λ k. apart_cell cells (parents t) (parents u) (suc i) k)
      ∙ ap (λ (m : ℕ). sum m (λ k. apart_cell cells (parents t) (parents u) (suc i) (suc k))) (omega (arith, long'))
      ∙ sum_ext (nodes u - 1 - 1) _ _ (λ k m. apart_read _ _ _ _ _ _
      (cell_is (suc i) (suc k) (omega arith) (omega arith)) (cell_up_column (suc i) k (omega arith) (omega arith))
      (cell_up_row i (suc k) (omega arith) (omega arith))))
      ∙ counts.apart
      ∙ sym (rw (s B) refl)

  -- ---- the table

  total : triplets t u A + triplets t u B + triplets t u C + triplets t u D + triplets t u E ≡ threes (tips t - 1)
  total = triplets-total t u g h e

  pub countable : Countable (crossed_all t u work) (tips t) (parents t) (parents u)
  countable = record {
    cells = crossed-cells;
    first_sizes = first_sizes;
    second_sizes = second_sizes;
    fits = record {
      tips_few = g.tips_range.1;
      first_most = omega (arith, first-sum, total, (all-triplets t g).2);
      second_most = omega (arith, second_sum, total, (all-triplets t g).2);
      C_fits = omega (arith, first-sum, alike_sum_lem, apart_sum_lem);
      D_fits = omega (arith, second_sum, alike_sum_lem, apart_sum_lem);
      E_fits = omega (arith, first-sum, second_sum, alike_sum_lem, apart_sum_lem, total);
    };
  }

  pub triplets_accepted : triplets_counted (crossed_all t u work) (tips t) (parents t) (parents u) ≡ triplet_answer t u (length work)
  unfolding triplets_counted triplet_answer
  triplets_accepted =
      formed_is (tips t) _ _ _ _ _ _ _ _ _ first-sum second_sum alike_sum_lem apart_sum_lem total
      ∙ sym (if_accepted_lem _ (triplets_of_pair t u) _ ((cells_check t u (length work)).1 p))

-- a refused pair
pub triplets_refused : (t u : Table) (cells k : ℕ) → k ≡ refusal (cells_order t u cells) → k ≢ 0
    → refused_triplets k ≡ triplet_answer t u cells
unfolding triplet_answer
triplets_refused t u cells k e d = rw e (sym (if_refused _ _ _ (λ z. d (e ∙ z))))
