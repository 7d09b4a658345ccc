-- The crossings of directed edges from those of edges: what lies behind the one code of an edge does not lie behind the
-- other.
-- Assumes nothing.
use Rattle.std.specs.Prelude.{◌≡◌, refl, Bool, true, false, not, ◌&&◌, List, length}
use Rattle.std.proofs.Math.Path.{sym, ap, ap₂}
use Rattle.std.proofs.Common.{◌∙◌}
use Prim.Native.Nat.{ℕ, zero, suc, ◌+◌, ◌*◌, ◌-◌, ◌/◌, ◌≤◌, ◌<◌}
use native.Mathlib.Omega.{arith}
use Rattle.sums.specs.theorems.SumLaws.{sum_cong, sum-add, sum_const}
use Rattle.sums.specs.Bits.{bit}
use Rattle.sums.specs.theorems.BitLaws.{bit_not}
use Rattle.sums.specs.Counts.{count}
use Rattle.sums.specs.theorems.CountLaws.{count-le}
use Rattle.shapes.proofs.theorems.DirectionLaws.{behind_even, behind_odd}
use Rattle.tree_check.specs.Table.{Table, word, tips, nodes, parent, node_of, beyond}
use Rattle.counting.specs.Labels.{Labels}
use Rattle.counting.specs.theorems.LabelLaws.{Rising}
use Rattle.counting.proofs.theorems.LabelLaws.{number-le}
use Rattle.counting.specs.ClaimSums.{behind_edge, size, crossing}
use Rattle.counting.specs.SplitCounts.{beyond_at}
use Rattle.pair_check.specs.PairOrder.{PairWithCells}
use Rattle.tree_pairs.specs.Crossings.{edge_crossing, crossed}
use Rattle.tree_pairs.proofs.theorems.CrossingLaws.{crossed-length, cell_of_edges}
use Rattle.tree_pairs.proofs.lemmas.CellSizes.{row_cell, column_cell}
use Rattle.claims.specs.lemmas.CodeCells.{child_cell, own_cell, code_cell, Crossed}
use Rattle.claims.specs.lemmas.CodeSizes.{code_size}

-- ---- tests

first_alone : (a b : Bool) → bit (a && not b) + bit (a && b) ≡ bit a
unfolding bit
first_alone true true = refl
first_alone true false = refl
first_alone false b = refl

second_alone : (a b : Bool) → bit (not a && b) + bit (a && b) ≡ bit b
unfolding bit
second_alone true b = omega arith
second_alone false b = omega arith

none_of_both : (a b : Bool) → bit (not a && not b) + bit a + bit b ≡ 1 + bit (a && b)
unfolding bit
none_of_both true true = refl
none_of_both true false = refl
none_of_both false true = refl
none_of_both false false = refl

one_of_two : (a : Bool) → bit (not a) + bit a ≡ 1
one_of_two a = omega (arith, bit_not a)

-- ---- one table

module _ (ks : Labels) (t : Table) where
  -- the tips beyond edge j, counted from 0
  abbrev edge_size : ℕ → ℕ
  edge_size j = count ks.number (beyond_at ks t (suc j))

  behind_rising : (j x : ℕ) → behind_edge ks t (2 * j) x ≡ beyond_at ks t (suc j) x
  unfolding behind_edge beyond beyond_at
  behind_rising j x = behind_even (parent t) j (node_of t (ks.at x))

  behind_falling : (j x : ℕ) → behind_edge ks t (suc (2 * j)) x ≡ not (beyond_at ks t (suc j) x)
  unfolding behind_edge beyond beyond_at
  behind_falling j x = behind_odd (parent t) j (node_of t (ks.at x))

  pub size-rising : (j : ℕ) → size ks t (2 * j) ≡ edge_size j
  unfolding size
  size-rising j = sum_cong ks.number (λ x. ap bit (behind_rising j x))

  pub size_falling : (j : ℕ) → size ks t (suc (2 * j)) + edge_size j ≡ ks.number
  unfolding size
  size_falling j =
      sym (sum-add ks.number (λ x. bit (behind_edge ks t (suc (2 * j)) x)) (λ x. bit (beyond_at ks t (suc j) x)))
      ∙ sum_cong ks.number (λ x. ap (λ (b : Bool). bit b + bit (beyond_at ks t (suc j) x)) (behind_falling j x)
      ∙ one_of_two (beyond_at ks t (suc j) x))
      ∙ omega (arith, sum_const ks.number 1)

-- ---- two tables

module _ (ks : Labels) (t u : Table) where
  -- the tips beyond edge k of the second tree, counted in the first
  abbrev other_size : ℕ → ℕ
  other_size k = count ks.number (beyond_at ks u (suc k))

  both_rising : (j k : ℕ) → crossing ks t u (2 * j) (2 * k) ≡ edge_crossing ks t u (suc j) (suc k)
  unfolding crossing edge_crossing
  both_rising j k = sum_cong ks.number (λ x.
      ap₂ (λ (a b : Bool). bit (a && b)) (behind_rising ks t j x) (behind_rising ks u k x))

  first-rising : (j k : ℕ)
      → crossing ks t u (2 * j) (suc (2 * k)) + edge_crossing ks t u (suc j) (suc k) ≡ edge_size ks t j
  unfolding crossing edge_crossing
  first-rising j k =
      sym (sum-add ks.number _ _)
      ∙ sum_cong ks.number (λ x.
      ap₂ (λ (a b : Bool). bit (a && b) + bit (beyond_at ks t (suc j) x && beyond_at ks u (suc k) x))
      (behind_rising ks t j x) (behind_falling ks u k x)
      ∙ first_alone (beyond_at ks t (suc j) x) (beyond_at ks u (suc k) x))

  second_rising : (j k : ℕ)
      → crossing ks t u (suc (2 * j)) (2 * k) + edge_crossing ks t u (suc j) (suc k) ≡ other_size k
  unfolding crossing edge_crossing
  second_rising j k =
      sym (sum-add ks.number _ _)
      ∙ sum_cong ks.number (λ x.
      ap₂ (λ (a b : Bool). bit (a && b) + bit (beyond_at ks t (suc j) x && beyond_at ks u (suc k) x))
      (behind_falling ks t j x) (behind_rising ks u k x)
      ∙ second_alone (beyond_at ks t (suc j) x) (beyond_at ks u (suc k) x))

  both_falling : (j k : ℕ)
      → crossing ks t u (suc (2 * j)) (suc (2 * k)) + edge_size ks t j + other_size k
      ≡ ks.number + edge_crossing ks t u (suc j) (suc k)
  unfolding crossing edge_crossing
  both_falling j k = omega (
    arith,
    sum-add ks.number (λ x. bit (behind_edge ks t (suc (2 * j)) x && behind_edge ks u (suc (2 * k)) x)) here,
    sum-add ks.number (λ x. bit (behind_edge ks t (suc (2 * j)) x && behind_edge ks u (suc (2 * k)) x) + here x) there,
    sum-add ks.number (λ x. 1) (λ x. bit (beyond_at ks t (suc j) x && beyond_at ks u (suc k) x)),
    sum_const ks.number 1,
    sum_cong ks.number (λ x.
        ap₂ (λ (a b : Bool). bit (a && b) + here x + there x) (behind_falling ks t j x) (behind_falling ks u k x)
        ∙ none_of_both (beyond_at ks t (suc j) x) (beyond_at ks u (suc k) x)),
  )
    where
      here : ℕ → ℕ
      here x = bit (beyond_at ks t (suc j) x)

      there : ℕ → ℕ
      there x = bit (beyond_at ks u (suc k) x)

-- ---- in the cells

-- the codes into a node, its own edge first: c 0 falls, the others rise; k is the number of edges
pub record NodeCodes (k d : ℕ) (c : ℕ → ℕ) : Type 0 where
  pub own : c 0 ≡ suc (2 * (c 0 / 2))
  pub children : (i : ℕ) → 1 ≤ i → i < d → c i ≡ 2 * (c i / 2)
  pub inside : (i : ℕ) → i < d → c i / 2 < k

module _ (ks : Labels) (t u : Table) (work : List ℕ) (p : PairWithCells t u (length work)) (r : Rising (tips t) ks) where
  cells : List ℕ
  cells = crossed ks t u work

  w : ℕ
  w = nodes u - 1

  module _ (j k : ℕ) (lj : j < nodes t - 1) (lk : k < nodes u - 1) where
    cell_is : word cells (j * w + k) ≡ edge_crossing ks t u (suc j) (suc k)
    unfolding cells w
    cell_is = cell_of_edges ks t u work j k lj lk

    row_is : word cells (j * w) ≡ edge_size ks t j
    unfolding cells w
    row_is = row_cell ks t u p.pair.first p.pair.second p.pair.same_tips r work j lj

    column_is : word cells k ≡ count ks.number (beyond_at ks u (suc k))
    unfolding cells
    column_is = column_cell ks t u p.pair.first p.pair.second p.pair.same_tips r work k lk

    at_both : word cells (j * w + k) ≡ crossing ks t u (2 * j) (2 * k)
    at_both = cell_is ∙ sym (both_rising ks t u j k)

    at_first : word cells (j * w) - word cells (j * w + k) ≡ crossing ks t u (2 * j) (suc (2 * k))
    at_first = omega (arith, cell_is, row_is, first-rising ks t u j k)

    at_second : word cells k - word cells (j * w + k) ≡ crossing ks t u (suc (2 * j)) (2 * k)
    at_second = omega (arith, cell_is, column_is, second_rising ks t u j k)

    at_neither : ks.number + word cells (j * w + k) - word cells (j * w) - word cells k
        ≡ crossing ks t u (suc (2 * j)) (suc (2 * k))
    at_neither = omega (arith, cell_is, row_is, column_is, both_falling ks t u j k)

  -- the cells of the codes into two nodes
  pub code_cell_lem : (d d' : ℕ) (c c' : ℕ → ℕ) → NodeCodes (nodes t - 1) d c → NodeCodes (nodes u - 1) d' c'
      → (i j : ℕ) → i < d → j < d'
      → code_cell (crossed ks t u work) (nodes u - 1) ks.number (λ i. c i / 2) (λ j. c' j / 2) i j
      ≡ crossing ks t u (c i) (c' j)
  unfolding code_cell own_cell child_cell cells w
  code_cell_lem d d' c c' h h' zero zero l m =
      at_neither (c 0 / 2) (c' 0 / 2) (h.inside 0 l) (h'.inside 0 m)
      ∙ ap₂ (crossing ks t u) (sym h.own) (sym h'.own)
  code_cell_lem d d' c c' h h' zero (suc j) l m =
      at_second (c 0 / 2) (c' (suc j) / 2) (h.inside 0 l) (h'.inside (suc j) m)
      ∙ ap₂ (crossing ks t u) (sym h.own) (sym (h'.children (suc j) (omega arith) m))
  code_cell_lem d d' c c' h h' (suc i) zero l m =
      at_first (c (suc i) / 2) (c' 0 / 2) (h.inside (suc i) l) (h'.inside 0 m)
      ∙ ap₂ (crossing ks t u) (sym (h.children (suc i) (omega arith) l)) (sym h'.own)
  code_cell_lem d d' c c' h h' (suc i) (suc j) l m =
      at_both (c (suc i) / 2) (c' (suc j) / 2) (h.inside (suc i) l) (h'.inside (suc j) m)
      ∙ ap₂ (crossing ks t u) (sym (h.children (suc i) (omega arith) l)) (sym (h'.children (suc j) (omega arith) m))

  -- ---- the sizes, by rows and by columns

  -- the sizes of the first tree begin the rows, ..
  pub first-size : (d : ℕ) (c : ℕ → ℕ) → NodeCodes (nodes t - 1) d c → (i : ℕ) → i < d
      → code_size (crossed ks t u work) (nodes u - 1) ks.number (λ i. c i / 2) i ≡ size ks t (c i)
  unfolding code_size cells w
  first-size d c h zero l =
      let j = c 0 / 2 in
      let some = p.pair.second.tips_range in
      let many = p.pair.second.nodes_range in
      omega (arith, row_is j 0 (h.inside 0 l) (omega arith), size_falling ks t j) ∙ ap (size ks t) (sym h.own)
  first-size d c h (suc i) l =
      let j = c (suc i) / 2 in
      let some = p.pair.second.tips_range in
      let many = p.pair.second.nodes_range in
      row_is j 0 (h.inside (suc i) l) (omega arith)
      ∙ sym (size-rising ks t j)
      ∙ ap (size ks t) (sym (h.children (suc i) (omega arith) l))

  -- .. those of the second are the first row
  column_size : (k : ℕ) → k < nodes u - 1 → word cells (k * 1) ≡ edge_size ks u k
  column_size k l =
      let some = p.pair.first.tips_range in
      let many = p.pair.first.nodes_range in
      ap (word cells) (once k)
      ∙ column_is 0 k (omega arith) l
    where
      once : (k : ℕ) → k * 1 ≡ k
      once k = omega arith

  pub second_size : (d : ℕ) (c : ℕ → ℕ) → NodeCodes (nodes u - 1) d c → (i : ℕ) → i < d
      → code_size (crossed ks t u work) 1 ks.number (λ i. c i / 2) i ≡ size ks u (c i)
  unfolding code_size cells
  second_size d c h zero l =
      let k = c 0 / 2 in
      omega (arith, column_size k (h.inside 0 l), size_falling ks u k) ∙ ap (size ks u) (sym h.own)
  second_size d c h (suc i) l =
      let k = c (suc i) / 2 in
      column_size k (h.inside (suc i) l)
      ∙ sym (size-rising ks u k)
      ∙ ap (size ks u) (sym (h.children (suc i) (omega arith) l))

  -- ---- what the code asks of the cells

  pub crossed-cells : Crossed (crossed ks t u work) (nodes t - 1) (nodes u - 1) ks.number
  unfolding cells w
  crossed-cells =
      let few = p.pair.first.tips_range in
      let rows = p.pair.first.nodes_range in
      let same = p.pair.same_tips in
      let columns = p.pair.second.nodes_range in record {
        rows_few = omega arith;
        narrow = omega arith;
        inside = omega (arith, crossed-length ks t u work p.room, p.room);
        labels_few = omega (arith, number-le (tips t) ks r, few.1);
        in_row = λ j k lj lk. omega (arith, cell_is j k lj lk, row_is j k lj lk, first-rising ks t u j k);
        in_column = λ j k lj lk. omega (arith, cell_is j k lj lk, column_is j k lj lk, second_rising ks t u j k);
        row_most = λ j lj. omega (
          arith,
          row_is j 0 lj (omega arith),
          count-le ks.number (beyond_at ks t (suc j)),
        );
        column_most = λ k lk. omega (
          arith,
          column_is 0 k (omega arith) lk,
          count-le ks.number (beyond_at ks u (suc k)),
        );
        neither = λ j k lj lk. omega (
          arith,
          cell_is j k lj lk,
          row_is j k lj lk,
          column_is j k lj lk,
          both_falling ks t u j k,
        );
      }
