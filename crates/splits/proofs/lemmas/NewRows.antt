-- A row is a split and the first with its label sets exactly if its edge is, for any labels. An edge before it from the same
-- node is asked for only where all labels lie beyond the edge above.
-- Assumes nothing.
use Rattle.std.specs.Prelude.{◌≡◌, Bool, true, false, ◌&&◌, ◌⊎◌, List, ℕ, suc, ◌+◌, ◌-◌, ◌≤◌, ◌<◌, T, leb, length}
use Rattle.std.proofs.Math.Path.{refl, sym, ap, ap₂}
use Rattle.std.proofs.Common.{◌∙◌, inl, inr, add-one}
use Rattle.std.proofs.Math.Bool.{not}
use native.Mathlib.Omega.{arith}
use Rattle.std.proofs.Math.Dec.{T_not, eqb}
use Rattle.sums.specs.theorems.SumLaws.{sum_first, sum_ext, sum-add, sum_const}
use Rattle.sums.specs.Bits.{bit}
use Rattle.sums.specs.theorems.BitLaws.{bit_not, bit_no, bit-T, T-bit}
use Rattle.sums.specs.Tests.{some}
use Rattle.sums.specs.theorems.TestLaws.{and-iff, eq_iff, le_iff, same_test, some_ext, some-iff, T_dec}
use Rattle.sums.specs.Counts.{count}
use Rattle.shapes.specs.Ancestors.{anc}
use Rattle.shapes.proofs.theorems.AncestorLaws.{anc_self, anc_down, anc_trans}
use Rattle.shapes.specs.Splits.{Sides, is_split, is_new_split}
use Rattle.shapes.proofs.theorems.RobinsonFoulds.{new_iff}
use Rattle.tree_check.specs.Table.{Table, word, tips, nodes, parents, parent, node_of, beyond}
use Rattle.tree_check.specs.IsTree.{IsTree}
use Rattle.tree_check.specs.theorems.RootedTables.{rooted}
use Rattle.tree_check.specs.lemmas.TableParts.{parents-length}
use Rattle.counting.specs.Labels.{Labels}
use Rattle.counting.specs.theorems.LabelLaws.{Rising}
use Rattle.counting.specs.SplitCounts.{beyond_at}
use Rattle.counting.specs.theorems.NewSplits.{halves}
use Rattle.counting.proofs.theorems.NewSplits.{half_turned, new_by_sizes}
use Rattle.tree_pairs.proofs.lemmas.CellSizes.{all_beyond}
use Rattle.tree_pairs.specs.lemmas.EdgeRows.{above_in, row_size}
use Rattle.tree_pairs.proofs.lemmas.EdgeRows.{row_above}
use Rattle.splits.specs.lemmas.SplitCells.{split_size, new_size, half_row, new_row, new_edge}

-- an edge is a split by its size alone
split_by_size : (n : ℕ) (b : Sides) (i : ℕ) → is_split n b i ≡ split_size n (count n (b i))
unfolding is_split split_size
split_by_size n b i =
    ap (λ (z : Bool). leb 2 (count n (b i)) && z) (same_test (leb 2 here) (leb (count n (b i) + 2) n)
    (λ y. (le_iff (count n (b i) + 2) n).1 (omega (arith, all, (le_iff 2 here).0 y)))
    (λ y. (le_iff 2 here).1 (omega (arith, all, (le_iff (count n (b i) + 2) n).0 y))))
  where
    here : ℕ
    here = count n (λ x. not (b i x))

    all : count n (b i) + here ≡ n
    all = sym (sum-add n (λ x. bit (b i x)) (λ x. bit (not (b i x))))
        ∙ sum_ext n _ (λ x. 1) (λ x l. bit_not (b i x)) ∙ sum_const n 1 ∙ omega arith

-- every index passes
pub count-every : (n : ℕ) (q : ℕ → Bool) → ((x : ℕ) → x < n → T (q x)) → count n q ≡ n
count-every n q h = sum_ext n _ (λ x. 1) (λ x l. bit-T (q x) (h x l)) ∙ sum_const n 1 ∙ omega arith

-- a test that the second implies may be made first
pub asked_first : (a b : Bool) → (T b → T a) → (a && b) ≡ b
asked_first true b h = refl
asked_first false true h = absurd (h tt)
asked_first false false h = refl

swap : (a b : Bool) → (a && b) ≡ (b && a)
swap true true = refl
swap true false = refl
swap false true = refl
swap false false = refl

module _ (l : Labels) (t : Table) (g : IsTree t) (r : Rising (tips t) l) where
  abbrev n : ℕ
  n = l.number

  abbrev b : Sides
  b = beyond_at l t

  abbrev size : ℕ → ℕ
  size v = count n (b v)

  -- what lies beyond an edge lies beyond the edge above
  above : (v x : ℕ) → 1 ≤ v → T (b v x) → T (b (parent t v) x)
  unfolding beyond_at beyond
  above v x o y =
      let p = parent t v in
      let w = node_of t (l.at x) in
      T-bit (anc (parent t) p w) (omega (
        arith,
        anc_trans (parent t) (rooted t g) p v w
            (anc_down (parent t) (rooted t g) p v o (anc_self (parent t) (rooted t g) p)) (bit-T (anc (parent t) v w) y),
      ))

  -- where two edges from one node have all labels beyond them, so has the edge above
  halves_above : (i j : ℕ) → j < i → T (halves l t i j) → size (parent t (suc i)) ≡ n
  unfolding halves
  halves_above i j o y = count-every n (b (parent t (suc i))) (λ x m. beyond-either x m (T_dec (b (suc i) x)))
    where
      same_node : parent t (suc j) ≡ parent t (suc i)
      same_node = (eq_iff (parent t (suc j)) (parent t (suc i))).0 ((and-iff (eqb (parent t (suc j)) (parent t (suc i))) _).0 y).0

      beyond-either : (x : ℕ) → x < n → T (b (suc i) x) ⊎ T (not (b (suc i) x)) → T (b (parent t (suc i)) x)
      beyond-either x m (inl z) = above (suc i) x (omega arith) z
      beyond-either x m (inr z) = rw same_node at (above (suc j) x (omega arith) (T-bit (b (suc j) x) (omega (
        arith,
        ap bit (half_turned l t g r i j o y x m),
        bit_not (b (suc j) x),
        bit_not (b (suc i) x),
        bit-T (not (b (suc i) x)) z,
      ))))

  -- edge 1 has at most label 0 on the other side, so it is no split
  pub edge_1 : T (is_new_split n b 0) → ⊥
  unfolding beyond_at
  edge_1 y =
      let few = g.tips_range in
      let many = g.nodes_range in
      let s = ((new_iff n (nodes t - 1) b 0 (omega arith)).0 y).split.here in
      T_not (beyond t 1 (l.at s.1)) s.5 (T-bit (beyond t 1 (l.at s.1)) (omega (
        arith,
        all_beyond t g (l.at s.1) (r.inside s.1 s.3) (omega (arith, r.rises s.0 s.1 s.2 s.3)),
      )))

  -- a count of edges from edge 2 on, if edge 1 does not pass
  pub from_second : (p q : ℕ → Bool) → ((i : ℕ) → suc i < nodes t - 1 → p i ≡ q (suc i)) → (T (q 0) → ⊥)
      → count (length (parents t) - 2) p ≡ count (nodes t - 1) q
  from_second p q h z =
      let few = g.tips_range in
      let many = g.nodes_range in
      let k : length (parents t) - 2 ≡ nodes t - 2 = omega (arith, parents-length t g.words) in
      let d : nodes t - 1 ≡ suc (nodes t - 2) = omega arith in
      ap (λ (m : ℕ). count m p) k
      ∙ sum_ext (nodes t - 2) _ _ (λ i l. ap bit (h i (omega arith)))
      ∙ omega (arith, sum_first (nodes t - 2) (λ i. bit (q i)), bit_no (q 0) z)
      ∙ ap (λ (m : ℕ). count m q) (sym d)

  -- cells with the sizes, `step` cells apart
  module _ (work : List ℕ) (step : ℕ) (cells : (i : ℕ) → i < nodes t - 1 → row_size work step i ≡ size (suc i)) where
    above_cell : (i : ℕ) → suc i < nodes t - 1 → row_size work step (above_in (parents t) (suc i)) ≡ size (parent t (suc (suc i)))
    above_cell i o = let a = row_above t g i o in cells (above_in (parents t) (suc i)) a.1 ∙ ap size a.0

    half_row_lem : (i k : ℕ) → i < nodes t - 1 → k < i → half_row n work step (parents t) i k ≡ halves l t i k
    unfolding half_row halves parent
    half_row_lem i k o m =
        ap₂ (λ (x y : ℕ). eqb (word (parents t) x) (word (parents t) y)
        && eqb (row_size work step k + row_size work step i) n) (add-one k) (add-one i)
        ∙ ap₂ (λ (x y : ℕ). eqb (parent t (suc k)) (parent t (suc i)) && eqb (x + y) n) (cells k (omega arith)) (cells i o)

    some_half : (i : ℕ) → i < nodes t - 1 → some i (half_row n work step (parents t) i) ≡ some i (halves l t i)
    some_half i o = some_ext i _ _ (λ k m. half_row_lem i k o m)

    -- row i + 1 is that of edge i + 2
    pub edge_new : (i : ℕ) → suc i < nodes t - 1 → new_edge n work step (parents t) i ≡ is_new_split n b (suc i)
    unfolding new_row new_size
    edge_new i o =
        let s = size (suc (suc i)) in
        let a = size (parent t (suc (suc i))) in
        let half = some (suc i) (halves l t (suc i)) in
        ap (new_row n work step (parents t)) (add-one i)
        ∙ rw (cells (suc i) o, above_cell i o, some_half (suc i) o) refl
        ∙ ap₂ (λ (x y : Bool). x && not y) (swap (not (eqb s a)) (split_size n s)
        ∙ ap (λ (x : Bool). x && not (eqb s a)) (sym (split_by_size n b (suc (suc i)))))
        (asked_first (eqb a n) half (λ y.
        let k = (some-iff (suc i) (halves l t (suc i))).0 y in
        (eq_iff a n).1 (halves_above (suc i) k.0 k.1 k.2)))
        ∙ sym (new_by_sizes l t g r (suc i) o)
