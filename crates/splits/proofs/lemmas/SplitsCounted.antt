-- The split counts as they are counted in the cells.
-- Assumes nothing.
use Rattle.std.specs.Prelude.{◌≡◌, Bool, ◌&&◌, ◌≢◌, List, ℕ, suc, ◌+◌, ◌*◌, ◌-◌, ◌≤◌, ◌<◌, length}
use Rattle.std.proofs.Math.Path.{refl, sym, ap₂}
use Rattle.std.proofs.Common.{◌∙◌, ap, arith, add-one}
use Rattle.sums.specs.theorems.CountLaws.{count-le}
use Rattle.sums.specs.theorems.TestLaws.{and-iff}
use Rattle.shapes.specs.Splits.{occurs, is_new_split, splits_of, common_of}
use Rattle.counting.specs.SplitCounts.{beyond_at, splits, common_splits, robinson_foulds}
use Rattle.marks.specs.Marks.{kept_of}
use Rattle.counting.specs.Labels.{Labels}
use Rattle.counting.specs.theorems.LabelLaws.{Rising}
use Rattle.counting.proofs.theorems.LabelLaws.{rising_of}
use Rattle.counting.specs.Kept.{kept}
use Rattle.counting.proofs.theorems.KeptLaws.{kept-rising}
use Rattle.counting.proofs.theorems.TreeSplits.{robinson_foulds_fits}
use Rattle.tree_check.specs.Table.{Table, tips, nodes, parents}
use Rattle.tree_check.specs.lemmas.TableParts.{parents-length}
use Rattle.tree_check.specs.Refusals.{refusal}
use Rattle.tree_check.specs.theorems.RefusalLaws.{if_accepted_lem, if_refused}
use Rattle.tree_check.specs.IsTree.{IsTree}
use Rattle.splits.specs.declared.counts.SplitCounts.{SplitCounts}
use Rattle.pair_check.specs.PairOrder.{PairWithCells, MarkedPair, pair_order}
use Rattle.pair_check.specs.theorems.PairCheck.{pair_check}
use Rattle.tree_pairs.specs.Crossings.{crossed, after_crossings}
use Rattle.tree_pairs.proofs.theorems.CrossingLaws.{cell_inside, crossed-length}
use Rattle.tree_pairs.proofs.lemmas.CellSizes.{row_cell}
use Rattle.tree_pairs.proofs.lemmas.EdgeRows.{earlier_parents, size_of_column}
use Rattle.tree_pairs.specs.lemmas.LentTables.{lent_parents}
use Rattle.tree_pairs.proofs.lemmas.LentTables.{crossings_are, to_lent, of_lent}
use Rattle.splits.specs.lemmas.SplitCells.{new_edge, edge_splits, occurs_row, common_row, common_rows}
use Rattle.splits.proofs.lemmas.NewRows.{edge_1, edge_new, from_second}
use Rattle.splits.proofs.lemmas.SharedRows.{occurs_row_lem}
use Rattle.splits.specs.SplitAnswer.{splits_among, refused_splits, split_answer}
use Rattle.splits.specs.lemmas.SplitsCounted.{SplitsCountable, splits_counted}

-- ---- a refused pair

pub split_refused : (t u : Table) (marks : List ℕ) (cells k : ℕ) → k ≡ refusal (pair_order t u marks cells) → k ≢ 0
    → refused_splits k ≡ split_answer t u marks cells
unfolding split_answer
split_refused t u marks cells k e d = rw e (sym (if_refused _ _ _ (λ z. d (e ∙ z))))

-- ---- counted in the cells

edge_splits_most : (n : ℕ) (work : List ℕ) (step : ℕ) (ps : List ℕ) → edge_splits n work step ps ≤ length ps - 2
unfolding edge_splits
edge_splits_most n work step ps = count-le (length ps - 2) _

-- from the three counts
pub counted_is : (work : List ℕ) (n : ℕ) (ps qs : List ℕ) (a b c : ℕ) → a ≡ edge_splits n work (length qs - 1) ps
    → b ≡ edge_splits n work 1 qs → c ≡ common_rows n work (length qs - 1) ps
    → record { refusal = 0; first = a; second = b; common = c; distance = a + b - 2 * c }
    ≡ splits_counted work n ps qs
unfolding splits_counted
counted_is work n ps qs a b c ea eb ec = rw (ea, eb, ec)

-- the cells of a pair
module _ (l : Labels) (t u : Table) (work : List ℕ) (p : PairWithCells t u (length work)) (r : Rising (tips t) l) where
  g : IsTree t
  g = p.pair.first

  h : IsTree u
  h = p.pair.second

  e : tips t ≡ tips u
  e = p.pair.same_tips

  abbrev n : ℕ
  n = l.number

  abbrev cells : List ℕ
  cells = crossed l t u work

  long : length (parents t) ≡ nodes t
  long = parents-length t g.words

  long' : length (parents u) ≡ nodes u
  long' = parents-length u h.words

  -- the rows' edges are the first with their label sets, and the columns'
  row_new : (i : ℕ) → suc i < nodes t - 1
      → new_edge n cells (nodes u - 1) (parents t) i ≡ is_new_split n (beyond_at l t) (suc i)
  row_new = edge_new l t g r cells (nodes u - 1) (row_cell l t u g h e r work)

  column_new : (j : ℕ) → suc j < nodes u - 1 → new_edge n cells 1 (parents u) j ≡ is_new_split n (beyond_at l u) (suc j)
  column_new = edge_new l u h (rising_of (tips t) (tips u) l e r) cells 1 (size_of_column l t u g h e r work)

  -- the splits of the first tree
  first_is : edge_splits n cells (length (parents u) - 1) (parents t) ≡ splits l t
  unfolding edge_splits splits splits_of
  first_is = rw long' (from_second l t g r (new_edge n cells (nodes u - 1) (parents t)) (is_new_split n (beyond_at l t))
      row_new (edge_1 l t g r))

  -- the splits of the second tree
  second_is : edge_splits n cells 1 (parents u) ≡ splits l u
  unfolding edge_splits splits splits_of
  second_is =
      let q = rising_of (tips t) (tips u) l e r in
      from_second l u h q (new_edge n cells 1 (parents u)) (is_new_split n (beyond_at l u)) column_new (edge_1 l u h q)

  -- the common splits
  common_row_lem : (i : ℕ) → suc i < nodes t - 1 → common_row n cells (nodes u - 1) (parents t) i
      ≡ (is_new_split n (beyond_at l t) (suc i) && occurs n (beyond_at l t) (nodes u - 1) (beyond_at l u) (suc (suc i)))
  unfolding common_row
  common_row_lem i o = ap₂ (λ (a b : Bool). a && b) (row_new i o)
      (ap (λ (k : ℕ). occurs_row n (nodes u - 1) cells (k * (nodes u - 1))) (add-one i)
      ∙ occurs_row_lem l t u g h e r work (suc i) o)

  common_is : common_rows n cells (length (parents u) - 1) (parents t) ≡ common_splits l t u
  unfolding common_rows common_splits common_of
  common_is = rw long' (from_second l t g r (common_row n cells (nodes u - 1) (parents t))
      (λ i. is_new_split n (beyond_at l t) i && occurs n (beyond_at l t) (nodes u - 1) (beyond_at l u) (suc i)) common_row_lem
      (λ y. edge_1 l t g r ((and-iff (is_new_split n (beyond_at l t) 0) _).0 y).0))

  in_row : (i : ℕ) → i < nodes t - 1 → i * (nodes u - 1) < length work
  in_row i o =
      let few = h.tips_range in
      let many = h.nodes_range in
      omega (arith, cell_inside i 0 (nodes t - 1) (nodes u - 1) o (omega arith), p.room)

  in_column : (j : ℕ) → j < nodes u - 1 → j * 1 < length work
  in_column j o =
      let few = g.tips_range in
      let many = g.nodes_range in
      omega (arith, cell_inside 0 j (nodes t - 1) (nodes u - 1) (omega arith) o, p.room)

  pub split_cells : SplitsCountable (crossed l t u work) l.number (parents t) (parents u)
  split_cells =
      let few = h.tips_range in
      let many = h.nodes_range in
      let less = g.tips_range in
      let more = g.nodes_range in
      record {
        first_room = record {
          parents = earlier_parents t g;
          narrow = omega (arith, long');
          inside = λ i o. rw (long', crossed-length l t u work p.room) (in_row i (omega (arith, long)));
        };
        second_room = record {
          parents = earlier_parents u h;
          narrow = omega arith;
          inside = λ j o. rw (crossed-length l t u work p.room) (in_column j (omega (arith, long')));
        };
        rows = record {
          some = omega (arith, long');
          rows = rw (long, long', crossed-length l t u work p.room) p.room;
        };
        few = omega (
          arith,
          edge_splits_most n cells (length (parents u) - 1) (parents t),
          edge_splits_most n cells 1 (parents u),
          long,
          long',
        );
        fits = rw (first_is, second_is, common_is) (robinson_foulds_fits l t u);
      }

  pub split_among : splits_counted (crossed l t u work) l.number (parents t) (parents u) ≡ splits_among l t u
  unfolding splits_counted robinson_foulds
  split_among = rw (first_is, second_is, common_is) refl

-- ---- through the parts that code lends, after the crossings were written

module _ (t u : Table) (marks work new : List ℕ) (p : MarkedPair t u marks (length work))
    (w : new ≡ after_crossings t u marks work)
    (c m k : ℕ) (ec : c ≡ kept_of marks (tips t)) (em : m ≡ nodes t) (ek : k ≡ nodes u) where
  abbrev l : Labels
  l = kept marks (tips t)

  rises : Rising (tips t) l
  rises = kept-rising marks (tips t)

  written : new ≡ crossed l t u work
  written = crossings_are t u marks work new p w

  pub lent_countable : SplitsCountable new c (lent_parents t m) (lent_parents u k)
  lent_countable =
      to_lent (λ x y n ps qs. SplitsCountable x y ps qs) l t u work new p.with_cells written c (tips t) m k ec refl em ek
      (split_cells l t u work p.with_cells rises)

  pub lent_splits : (r : SplitCounts) → r ≡ splits_counted new c (lent_parents t m) (lent_parents u k)
      → r ≡ split_answer t u marks (length work)
  unfolding split_answer
  lent_splits r q =
      of_lent (λ x y n ps qs. r ≡ splits_counted x y ps qs) l t u work new p.with_cells written c (tips t) m k ec refl em ek q
      ∙ split_among l t u work p.with_cells rises
      ∙ sym (if_accepted_lem _ (splits_among l t u) _ ((pair_check t u marks (length work)).1 p))
