-- The label sets of a row occur in the other tree exactly if some column has the same labels beyond it, or all the others; the
-- others only where all labels lie beyond edge 1.
-- Assumes nothing.
use Rattle.std.specs.Prelude.{◌≡◌, Bool, ◌||◌, List, T, eqb}
use Rattle.std.proofs.Math.Path.{refl, sym, ap}
use Rattle.std.proofs.Common.{◌∙◌, inl, inr}
use Rattle.std.proofs.Math.Bool.{not}
use Prim.Native.Nat.{ℕ, zero, suc, ◌*◌, ◌-◌, ◌≤◌, ◌<◌}
use native.Mathlib.Omega.{arith}
use Rattle.sums.specs.Bits.{bit}
use Rattle.sums.specs.theorems.BitLaws.{bit_not, T-bit}
use Rattle.sums.specs.Tests.{some}
use Rattle.sums.specs.theorems.TestLaws.{or-iff, eq_iff, same_test, some_ext, some-iff}
use Rattle.sums.specs.Counts.{count}
use Rattle.shapes.specs.Splits.{Sides, occurs}
use Rattle.tree_check.specs.Table.{Table, word, tips, nodes, beyond}
use Rattle.tree_check.specs.IsTree.{IsTree}
use Rattle.counting.specs.Labels.{Labels}
use Rattle.counting.specs.theorems.LabelLaws.{Rising}
use Rattle.counting.specs.SplitCounts.{beyond_at}
use Rattle.counting.proofs.theorems.TreeSplits.{zero_here}
use Rattle.tree_pairs.specs.Crossings.{edge_crossing, crossed}
use Rattle.tree_pairs.proofs.theorems.CrossingLaws.{cell_of_edges}
use Rattle.tree_pairs.proofs.lemmas.CellSizes.{all_beyond, row_cell, column_cell}
use Rattle.splits.specs.lemmas.SplitCells.{shared_row, apart_row, occurs_row}
use Rattle.splits.proofs.lemmas.NewRows.{count-every, asked_first}
use Rattle.splits.proofs.lemmas.SidesByCrossing.{alike, complementary, apart_turned, sides_by_crossing}

-- some index passes one of two tests
some_or : (n : ℕ) (p q : ℕ → Bool) → some n (λ j. p j || q j) ≡ (some n p || some n q)
some_or n p q = same_test _ _
    (λ y. let s = (some-iff n (λ j. p j || q j)).0 y in
    (or-iff (some n p) (some n q)).1 (elim ((or-iff (p s.0) (q s.0)).0 s.2) [
      | inl z ↦ inl ((some-iff n p).1 (s.0, s.1, z))
      | inr z ↦ inr ((some-iff n q).1 (s.0, s.1, z))
    ]))
    (λ y. (some-iff n (λ j. p j || q j)).1 (elim ((or-iff (some n p) (some n q)).0 y) [
      | inl z ↦ (let s = (some-iff n p).0 z in (s.0, s.1, (or-iff (p s.0) (q s.0)).1 (inl s.2)))
      | inr z ↦ (let s = (some-iff n q).0 z in (s.0, s.1, (or-iff (p s.0) (q s.0)).1 (inr s.2)))
    ]))

module _ (l : Labels) (t u : Table) (g : IsTree t) (h : IsTree u) (e : tips t ≡ tips u) (r : Rising (tips t) l) where
  abbrev n : ℕ
  n = l.number

  abbrev b : Sides
  b = beyond_at l t

  abbrev c : Sides
  c = beyond_at l u

  -- two edges without a common label that have all labels beyond them: label 0 is not counted
  apart-all : (i j : ℕ) → 1 ≤ i → 1 ≤ j → T (complementary n b c i j) → count n (b 1) ≡ n
  unfolding beyond_at
  apart-all i j li lj y = count-every n (b 1) (λ x m. T-bit (beyond t 1 (l.at x)) (omega (
    arith,
    all_beyond t g (l.at x) (r.inside x m) (other (l.at x) (apart_turned n b c i j y x m)),
  )))
    where
      other : (k : ℕ) → beyond t i k ≡ not (beyond u j k) → 1 ≤ k
      other zero q = absurd (omega (arith, ap bit q, zero_here t g i li, zero_here u h j lj, bit_not (beyond u j 0)))
      other (suc k) q = omega arith

  module _ (work : List ℕ) (i : ℕ) (o : i < nodes t - 1) where
    shared_columns : shared_row (nodes u - 1) (crossed l t u work) (i * (nodes u - 1))
        ≡ some (nodes u - 1) (λ j. alike n b c (suc i) (suc j))
    unfolding shared_row edge_crossing
    shared_columns = some_ext (nodes u - 1) _ _ (λ j m.
        rw (cell_of_edges l t u work i j o m, row_cell l t u g h e r work i o, column_cell l t u g h e r work j m) refl)

    apart_columns : apart_row n (nodes u - 1) (crossed l t u work) (i * (nodes u - 1))
        ≡ some (nodes u - 1) (λ j. complementary n b c (suc i) (suc j))
    unfolding apart_row edge_crossing
    apart_columns = some_ext (nodes u - 1) _ _ (λ j m.
        rw (cell_of_edges l t u work i j o m, row_cell l t u g h e r work i o, column_cell l t u g h e r work j m) refl)

    -- the first cell
    edge_1_size : word (crossed l t u work) 0 ≡ count n (b 1)
    edge_1_size =
        let z : 0 * (nodes u - 1) ≡ 0 = omega arith in
        rw z at (row_cell l t u g h e r work 0 (omega arith))

    pub occurs_row_lem : occurs_row n (nodes u - 1) (crossed l t u work) (i * (nodes u - 1)) ≡ occurs n b (nodes u - 1) c (suc i)
    unfolding occurs_row occurs
    occurs_row_lem =
        let same = some (nodes u - 1) (λ j. alike n b c (suc i) (suc j)) in
        let other = some (nodes u - 1) (λ j. complementary n b c (suc i) (suc j)) in
        rw (shared_columns, apart_columns, edge_1_size) refl
        ∙ ap (λ (z : Bool). same || z) (asked_first (eqb (count n (b 1)) n) other (λ y.
        let k = (some-iff (nodes u - 1) (λ j. complementary n b c (suc i) (suc j))).0 y in
        (eq_iff (count n (b 1)) n).1 (apart-all (suc i) (suc k.0) (omega arith) (omega arith) k.2)))
        ∙ sym (some_or (nodes u - 1) (λ j. alike n b c (suc i) (suc j)) (λ j. complementary n b c (suc i) (suc j)))
        ∙ some_ext (nodes u - 1) _ _ (λ j m. sym (sides_by_crossing n b c (suc i) (suc j)))
