-- The first edge with its two label sets, by sizes: fewer labels lie beyond it than beyond the edge above, and no edge before it
-- leads from the same node to all the other labels.
-- Assumes nothing.
use Rattle.std.specs.Prelude.{◌≡◌, refl, Bool, true, false, ◌&&◌, ◌⊎◌, ◌≢◌, ℕ, zero, suc, ◌+◌, ◌-◌, ◌≤◌, ◌<◌, T, eqb}
use Rattle.std.proofs.Common.{sym, ◌∙◌, subst, inl, inr, T_not}
use Rattle.std.proofs.Math.Path.{ap}
use Rattle.std.proofs.Math.Bool.{not}
use Rattle.std.proofs.Math.Decide.{dec_le}
use native.Mathlib.Omega.{arith}
use Rattle.std.proofs.Math.Dec.{not_T}
use Rattle.sums.specs.Bits.{bit}
use Rattle.sums.specs.Counts.{count}
use Rattle.sums.specs.Tests.{some}
use Rattle.sums.specs.theorems.SumLaws.{sum_ext, sum-add, sum_const}
use Rattle.sums.specs.theorems.BitLaws.{bit_not, bit-T, T-bit, T_false}
use Rattle.sums.specs.theorems.TestLaws.{and-iff, eq_iff, not_eq_iff, some-iff, same_test, T_dec}
use Rattle.sums.specs.theorems.Matchings.{count_mono, count_same}
use Rattle.shapes.specs.Ancestors.{anc}
use Rattle.shapes.proofs.theorems.AncestorLaws.{parent-lt, anc_root, anc_self, anc_down, anc_past, anc_trans, anc-line, anc-le}
use Rattle.shapes.proofs.theorems.AncestorLaws.{one_child}
use Rattle.shapes.proofs.theorems.PathLaws.{towards}
use Rattle.shapes.specs.Splits.{is_split, is_new_split, Split, SameSides, same, turned}
use Rattle.shapes.specs.theorems.SplitLaws.{NewSplit}
use Rattle.shapes.proofs.theorems.SplitLaws.{split_iff}
use Rattle.shapes.proofs.theorems.RobinsonFoulds.{new_iff}
use Rattle.tree_check.specs.Table.{Table, tips, nodes, parent, node_of, beyond}
use Rattle.tree_check.specs.IsTree.{IsTree}
use Rattle.tree_check.specs.theorems.RootedTables.{rooted}
use Rattle.counting.specs.Labels.{Labels, all}
use Rattle.counting.specs.theorems.LabelLaws.{Rising}
use Rattle.counting.proofs.theorems.LabelLaws.{all-rising}
use Rattle.counting.specs.SplitCounts.{beyond_at}
use Rattle.counting.proofs.theorems.TreeSplits.{zero_here}
use Rattle.counting.specs.theorems.NewSplits.{halves, size_at, size_beyond}

-- ---- complements

-- a label passes one of two tests
other_way : (a b : Bool) → (T a → T (not b)) → (T (not b) → T a) → a ≡ not b
other_way a b f g = same_test a (not b) f g

count_both : (n : ℕ) (q : ℕ → Bool) → count n q + count n (λ x. not (q x)) ≡ n
count_both n q =
    sym (sum-add n (λ x. bit (q x)) (λ x. bit (not (q x))))
    ∙ sum_ext n _ (λ x. 1) (λ x l. bit_not (q x))
    ∙ sum_const n 1
    ∙ omega arith

-- sets without a common label that have all labels between them
complement : (n : ℕ) (q p : ℕ → Bool) → ((x : ℕ) → x < n → T (q x) → T (p x) → ⊥) → count n p + count n q ≡ n
    → (x : ℕ) → x < n → q x ≡ not (p x)
complement n q p apart e x l = other_way (q x) (p x)
    (λ y. not_T (p x) (apart x l y))
    (count_same n q (λ z. not (p z)) (λ z m y. not_T (p z) (apart z m y)) (omega (arith, count_both n p)) x l)

module _ (l : Labels) (t : Table) (g : IsTree t) (r : Rising (tips t) l) where
  abbrev b : ℕ → ℕ → Bool
  b = beyond_at l t

  abbrev n : ℕ
  n = l.number

  -- what lies beyond an edge lies beyond every edge above it, ..
  above : (v w x : ℕ) → bit (anc (parent t) v w) ≡ 1 → T (b w x) → T (b v x)
  unfolding beyond_at beyond
  above v w x a y =
      let c = bit-T (anc (parent t) w (node_of t (l.at x))) y in
      T-bit (anc (parent t) v (node_of t (l.at x)))
      (omega (arith, anc_trans (parent t) (rooted t g) v w (node_of t (l.at x)) a c))

  -- .. and the other way round, if as many do
  below : (v w : ℕ) → bit (anc (parent t) v w) ≡ 1 → size_at l t w ≡ size_at l t v
      → (x : ℕ) → x < n → T (b v x) → T (b w x)
  below v w a e = count_same n (b w) (b v) (λ x o. above v w x a) e

  all_below_0 : (x : ℕ) → T (b 0 x)
  unfolding beyond_at beyond
  all_below_0 x = T-bit (anc (parent t) 0 (node_of t (l.at x)))
      (omega (arith, anc_root (parent t) (rooted t g) (node_of t (l.at x))))

  -- two edges above one label: the one with the lower number is above the other
  nested : (v w x : ℕ) → v ≤ w → T (b v x) → T (b w x) → bit (anc (parent t) v w) ≡ 1
  unfolding beyond_at beyond
  nested v w x o y z = anc-line (parent t) (rooted t g) v w (node_of t (l.at x)) o
      (bit-T (anc (parent t) v (node_of t (l.at x))) y) (bit-T (anc (parent t) w (node_of t (l.at x))) z)

  -- no label lies beyond two edges from one node
  siblings : (v w x : ℕ) → 1 ≤ v → 1 ≤ w → parent t v ≡ parent t w → v ≢ w → T (b v x) → T (b w x) → ⊥
  unfolding beyond_at beyond
  siblings v w x lv lw e d y z = d (one_child (parent t) (rooted t g) v w (node_of t (l.at x)) lv lw e
      (bit-T (anc (parent t) v (node_of t (l.at x))) y) (bit-T (anc (parent t) w (node_of t (l.at x))) z))

  up_above : (v : ℕ) → 1 ≤ v → bit (anc (parent t) (parent t v) v) ≡ 1
  up_above v o = anc_down (parent t) (rooted t g) (parent t v) v o (anc_self (parent t) (rooted t g) (parent t v))

  -- ---- an edge that is not the first

  -- with as many beyond the edge above
  not_first : (i p : ℕ) → bit (anc (parent t) p (suc i)) ≡ 1 → p ≤ i → size_at l t (suc i) ≡ size_at l t p
      → NewSplit n (nodes t - 1) b i → ⊥
  not_first i zero a o e f =
      let s = f.split.here in
      T_not (b (suc i) s.0) s.4 (below 0 (suc i) a e s.0 (omega (arith, s.2, s.3)) (all_below_0 s.0))
  not_first i (suc j) a o e f = f.new j o (same (λ x m. same_test (b (suc i) x) (b (suc j) x)
      (above (suc j) (suc i) x a) (below (suc j) (suc i) a e x m)))

  -- with the other half before it
  pub half_turned : (i j : ℕ) → j < i → T (halves l t i j) → (x : ℕ) → x < n → b (suc i) x ≡ not (b (suc j) x)
  unfolding halves
  half_turned i j o y =
      let z = (and-iff (eqb (parent t (suc j)) (parent t (suc i))) _).0 y in
      let e = (eq_iff (parent t (suc j)) (parent t (suc i))).0 z.0 in
      complement n (b (suc i)) (b (suc j))
      (λ x m u v. siblings (suc j) (suc i) x (omega arith) (omega arith) e (λ q. omega arith) v u)
      ((eq_iff (size_at l t (suc j) + size_at l t (suc i)) n).0 z.1)

  -- ---- an edge that is the first

  -- more lies beyond the edge above: some label does
  some_more : (i : ℕ) → size_at l t (suc i) ≢ size_at l t (parent t (suc i))
      → (y : ℕ) × (y < n) × T (b (parent t (suc i)) y) × T (not (b (suc i) y))
  some_more i d = go (T_dec (some n more))
    where
      p : ℕ
      p = parent t (suc i)

      more : ℕ → Bool
      more x = b p x && not (b (suc i) x)

      found : (y : ℕ) × (y < n) × T (more y) → (y : ℕ) × (y < n) × T (b p y) × T (not (b (suc i) y))
      found s = let z = (and-iff (b p s.0) (not (b (suc i) s.0))).0 s.2 in (s.0, s.1, z.0, z.1)

      inside : T (not (some n more)) → (x : ℕ) → x < n → T (b p x) → T (b (suc i) x)
      inside z x o y = elim (T_dec (b (suc i) x)) [
        | inl u ↦ u
        | inr u ↦ absurd (T_not (some n more) z ((some-iff n more).1 (x, o, (and-iff (b p x) (not (b (suc i) x))).1 (y, u))))
      ]

      go : T (some n more) ⊎ T (not (some n more)) → (y : ℕ) × (y < n) × T (b p y) × T (not (b (suc i) y))
      go (inl y) = found ((some-iff n more).0 y)
      go (inr z) = absurd (d (omega (
        arith,
        count_mono n (b (suc i)) (b p) (λ x o. above p (suc i) x (up_above (suc i) (omega arith))),
        count_mono n (b p) (b (suc i)) (inside z),
      )))

  module _ (i : ℕ) (m : i < nodes t - 1) (s : Split n (nodes t - 1) b (suc i))
      (d : size_at l t (suc i) ≢ size_at l t (parent t (suc i))) where
    -- a label beyond it
    inner : ℕ
    inner = s.beyond.0

    inner_low : inner < n
    unfolding inner
    inner_low = omega (arith, s.beyond.2, s.beyond.3)

    inner_beyond : T (b (suc i) inner)
    unfolding inner
    inner_beyond = s.beyond.4

    -- no edge before it has the same set
    no_same : (j : ℕ) → j < i → ((x : ℕ) → x < n → b (suc i) x ≡ b (suc j) x) → ⊥
    no_same j o h =
        let p = parent t (suc i) in
        let there = T-bit (b (suc j) inner) (omega (arith, ap bit (h inner inner_low), bit-T (b (suc i) inner) inner_beyond)) in
        let a = nested (suc j) (suc i) inner (omega arith) there inner_beyond in
        let c = anc_past (parent t) (rooted t g) (suc j) (suc i) (omega arith) a in
        d (omega (
          arith,
          count_mono n (b (suc i)) (b p) (λ y q. above p (suc i) y (up_above (suc i) (omega arith))),
          count_mono n (b p) (b (suc j)) (λ y q. above (suc j) p y c),
          sum_ext n _ _ (λ y q. ap bit (h y q)),
        ))

    -- where one before it has the complement, an edge from the same node has it too
    module _ (j : ℕ) (o : j < i) (h : (x : ℕ) → x < n → b (suc i) x ≡ not (b (suc j) x)) where
      in_other : (x : ℕ) → x < n → T (not (b (suc i) x)) → T (b (suc j) x)
      in_other x q y = T-bit (b (suc j) x) (omega (
        arith,
        ap bit (h x q),
        bit_not (b (suc j) x),
        bit_not (b (suc i) x),
        bit-T (not (b (suc i) x)) y,
      ))

      -- it is not above the edge
      not_above : bit (anc (parent t) (suc j) (suc i)) ≡ 1 → ⊥
      not_above a = omega (
        arith,
        ap bit (h inner inner_low),
        bit_not (b (suc j) inner),
        bit-T (b (suc i) inner) inner_beyond,
        bit-T (b (suc j) inner) (above (suc j) (suc i) inner a inner_beyond),
      )

      -- the node that the edge leaves is above it
      node_above : (bit (anc (parent t) (parent t (suc i)) (suc j)) ≡ 1) × (parent t (suc i) ≢ suc j)
      node_above =
          let y = some_more i d in
          let c = in_other y.0 y.1 y.3 in
          let p = parent t (suc i) in
          let up = up_above (suc i) (omega arith) in (
            elim (dec_le p (suc j)) [
              | yes q ↦ nested p (suc j) y.0 q y.2 c
              | no q ↦ absurd (not_above (anc_trans (parent t) (rooted t g) (suc j) p (suc i)
                  (nested (suc j) p y.0 (omega arith) c y.2) up))
            ],
            λ e. not_above (subst (λ (v : ℕ). bit (anc (parent t) v (suc i)) ≡ 1) e up),
          )

      pub other_half : (k : ℕ) × (k < i) × T (halves l t i k)
      unfolding halves
      other_half =
          let w = towards (parent t) (rooted t g) (nodes t - 1) (parent t (suc i)) (suc j) (omega arith) node_above.1 node_above.0 in
          let k = w.0 in
          let low = anc-le (parent t) (rooted t g) (suc k) (suc j) w.3 in (
            k,
            omega arith,
            (and-iff (eqb (parent t (suc k)) (parent t (suc i))) _).1 (
              (eq_iff (parent t (suc k)) (parent t (suc i))).1 w.2,
              (eq_iff (size_at l t (suc k) + size_at l t (suc i)) n).1 (omega (
                arith,
                count_both n (b (suc i)),
                count_mono n (b (suc j)) (b (suc k)) (λ x q. above (suc k) (suc j) x w.3),
                count_mono n (b (suc k)) (λ x. not (b (suc i) x)) (λ x q y. not_T (b (suc i) x) (λ z.
                    siblings (suc k) (suc i) x (omega arith) (omega arith) w.2 (λ e. omega arith) y z)),
                count_mono n (λ x. not (b (suc i) x)) (b (suc j)) in_other,
              )),
            ),
          )

    first_of : (T (some i (halves l t i)) → ⊥) → NewSplit n (nodes t - 1) b i
    first_of none = record { split = s; new = new }
      where
        new : (j : ℕ) → j < i → SameSides n b b (suc i) (suc j) → ⊥
        new j o (same h) = no_same j o h
        new j o (turned h) = let k = other_half j o h in none ((some-iff i (halves l t i)).1 k)

  -- edge i + 1 is the first with its label sets exactly if it is a split, fewer labels lie beyond it than beyond the edge above,
  -- and no edge before it from the same node has the other half
  pub new_by_sizes : (i : ℕ) → i < nodes t - 1 → is_new_split n b i
      ≡ (is_split n b (suc i) && not (eqb (size_at l t (suc i)) (size_at l t (parent t (suc i)))) && not (some i (halves l t i)))
  new_by_sizes i m =
      let s = split_iff n (nodes t - 1) b (suc i) (omega arith) m in
      let f = new_iff n (nodes t - 1) b i m in
      let q = not_eq_iff (size_at l t (suc i)) (size_at l t (parent t (suc i))) in
      let two = and-iff (is_split n b (suc i)) (not (eqb (size_at l t (suc i)) (size_at l t (parent t (suc i))))) in
      let three = and-iff (is_split n b (suc i) && not (eqb (size_at l t (suc i)) (size_at l t (parent t (suc i))))) (not (some i (halves l t i))) in
      same_test _ _
      (λ y. let z = f.0 y in three.1 (
        two.1 (s.1 z.split, q.1 (λ e. not_first i (parent t (suc i)) (up_above (suc i) (omega arith)) lower e z)),
        not_T (some i (halves l t i)) (λ k. let w = (some-iff i (halves l t i)).0 k in z.new w.0 w.1 (turned (half_turned i w.0 w.1 w.2))),
      ))
      (λ y. let z = three.0 y in let v = two.0 z.0 in
      f.1 (first_of i m (s.0 v.0) (q.0 v.1) (T_not (some i (halves l t i)) z.1)))
    where
      lower : parent t (suc i) ≤ i
      lower = omega (arith, parent-lt (parent t) (rooted t g) (suc i) (omega arith))

and-all : (z : Bool) → (z && true) ≡ z
and-all true = refl
and-all false = refl

-- ---- all labels: label 0 lies beyond no edge, so that no two edges have all labels beyond them

module _ (t : Table) (g : IsTree t) where
  no_halves : (i : ℕ) → T (some i (halves (all (tips t)) t i)) → ⊥
  unfolding beyond_at
  no_halves i y =
      let few = g.tips_range in
      let w = (some-iff i (halves (all (tips t)) t i)).0 y in
      omega (
        arith,
        ap bit (half_turned (all (tips t)) t g (all-rising (tips t)) i w.0 w.1 w.2 0 (omega arith)),
        bit_not (beyond t (suc w.0) 0),
        zero_here t g (suc i) (omega arith),
        zero_here t g (suc w.0) (omega arith),
      )

  -- edge i + 1 is the first with its tip sets exactly if fewer tips lie beyond it than beyond the edge above
  pub new_by_size : (i : ℕ) → i < nodes t - 1 → is_new_split (tips t) (beyond t) i
      ≡ (is_split (tips t) (beyond t) (suc i) && not (eqb (size_beyond t (suc i)) (size_beyond t (parent t (suc i)))))
  unfolding beyond_at
  new_by_size i m =
      new_by_sizes (all (tips t)) t g (all-rising (tips t)) i m
      ∙ ap (λ (z : Bool). is_split (tips t) (beyond t) (suc i)
      && not (eqb (size_beyond t (suc i)) (size_beyond t (parent t (suc i)))) && not z) (T_false (some i (halves (all (tips t)) t i)) (no_halves i))
      ∙ and-all (is_split (tips t) (beyond t) (suc i) && not (eqb (size_beyond t (suc i)) (size_beyond t (parent t (suc i)))))
