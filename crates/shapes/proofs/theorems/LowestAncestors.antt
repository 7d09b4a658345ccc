-- The lowest common ancestor of two nodes, and the one edge above it at which a third node leaves.
-- Assumes nothing.
use Rattle.std.specs.Prelude.{◌≡◌, refl, Bool, true, false, not, ◌&&◌, ℕ, zero, suc, ◌+◌, ◌*◌, ◌≤◌, ◌<◌}
use Rattle.std.proofs.Common.{sym, ◌∙◌, ap, ap₂, inl, inr}
use native.Mathlib.Omega.{arith}
use Rattle.std.proofs.Math.Dec.{eqb-suc-suc}
use Rattle.sums.specs.Sum.{sum}
use Rattle.sums.specs.theorems.SumLaws.{sum_cong, sum-add, sum_none}
use Rattle.sums.specs.Bits.{bit, is}
use Rattle.sums.specs.theorems.BitLaws.{bit_cases, bit_not, T_true, T_false, T-bit, bit-T, is_other_lem, is_sym, alike, sum_is}
use Rattle.sums.specs.theorems.Products.{bit_and}
use Rattle.shapes.specs.Ancestors.{anc}
use Rattle.shapes.specs.Triplets.{last_below, lowest, resolved}
use Rattle.shapes.specs.theorems.AncestorLaws.{Rooted}
use Rattle.shapes.proofs.theorems.AncestorLaws.{up_ind, anc_at_zero, anc-le, anc_up, anc_self, anc_root}
use Rattle.shapes.proofs.theorems.AncestorLaws.{anc_down, anc_trans, anc-line}
use Rattle.shapes.specs.theorems.LowestAncestors.{leaves}

-- ---- the last index that passes a test

record Last (q : ℕ → Bool) (k i : ℕ) : Type 0 where
  below : i < k
  passes : bit (q i) ≡ 1
  highest : (j : ℕ) → j < k → bit (q j) ≡ 1 → j ≤ i

last_hit : (k : ℕ) (q : ℕ → Bool) → q k ≡ true → last_below (suc k) q ≡ k
unfolding last_below
last_hit k q e = rw (e, last_below)

last_miss : (k : ℕ) (q : ℕ → Bool) → q k ≡ false → last_below (suc k) q ≡ last_below k q
unfolding last_below
last_miss k q e = rw (e, last_below)

-- there is one if some index passes
last_found : (k : ℕ) (q : ℕ → Bool) (i : ℕ) → i < k → bit (q i) ≡ 1 → Last q k (last_below k q)
last_found zero q i l h = absurd (omega arith)
last_found (suc k) q i l h = elim (bit_cases (q k)) [
  | inl z ↦ (
      let e = last_miss k q (T_false (q k) (λ y. omega (arith, z, bit-T (q k) y))) in
      let s = last_found k q i (lower z i l h) h in
      rw e (record {
        below = omega (arith, s.below);
        passes = s.passes;
        highest = λ j m g. s.highest j (lower z j m g) g;
      }))
  | inr o ↦ (
      let e = last_hit k q (T_true (q k) (T-bit (q k) (omega (arith, o)))) in
      rw e (record { below = omega arith; passes = o; highest = λ j m g. omega arith }))
]
  where
    lower : bit (q k) ≡ 0 → (j : ℕ) → j < suc k → bit (q j) ≡ 1 → j < k
    lower z j m g = elim (alike j k) [
      | inl e ↦ absurd (omega (arith, z, g, ap (λ (x : ℕ). bit (q x)) e.0))
      | inr d ↦ (let f = d.0 in omega arith)
    ]

-- ---- tests as numbers

both_one : (x y : Bool) → bit (x && y) ≡ 1 → (bit x ≡ 1) × (bit y ≡ 1)
unfolding bit
both_one true true e = (refl, refl)
both_one true false e = absurd (omega arith)
both_one false true e = absurd (omega arith)
both_one false false e = absurd (omega arith)

one_both : (x y : Bool) → bit x ≡ 1 → bit y ≡ 1 → bit (x && y) ≡ 1
one_both x y p q = bit_and x y ∙ ap₂ (λ (a b : ℕ). a * b) p q

without : (x y : Bool) → (bit y ≡ 1 → bit x ≡ 1) → bit (x && not y) + bit y ≡ bit x
unfolding bit
without true true h = refl
without true false h = refl
without false true h = absurd (omega (arith, h refl))
without false false h = refl

module _ (up : ℕ → ℕ) (r : Rooted up) where
  -- ---- the lowest common ancestor

  lowest_last : (a b : ℕ) → Last (λ i. anc up i a && anc up i b) (suc a) (lowest up a b)
  unfolding lowest
  lowest_last a b = last_found (suc a) (λ i. anc up i a && anc up i b) 0 (omega arith)
      (one_both (anc up 0 a) (anc up 0 b) (anc_root up r a) (anc_root up r b))

  pub lowest-le : (a b : ℕ) → lowest up a b ≤ a
  lowest-le a b = omega (arith, (lowest_last a b).below)

  -- it is above both
  pub lowest_above : (a b : ℕ) → (bit (anc up (lowest up a b) a) ≡ 1) × (bit (anc up (lowest up a b) b) ≡ 1)
  lowest_above a b = both_one (anc up (lowest up a b) a) (anc up (lowest up a b) b) (lowest_last a b).passes

  -- and all that are above both are above it
  pub above_lowest : (a b i : ℕ) → bit (anc up i a) ≡ 1 → bit (anc up i b) ≡ 1 → bit (anc up i (lowest up a b)) ≡ 1
  above_lowest a b i p q =
      anc-line up r i (lowest up a b) a
      ((lowest_last a b).highest i (omega (arith, anc-le up r i a p)) (one_both (anc up i a) (anc up i b) p q))
      p (lowest_above a b).0

  common_above : (a b i : ℕ) → bit (anc up i a) * bit (anc up i b) ≡ bit (anc up i (lowest up a b))
  common_above a b i = elim (bit_cases (anc up i (lowest up a b))) [
    | inr o ↦ ap₂ (λ (x y : ℕ). x * y)
        (anc_trans up r i (lowest up a b) a o (lowest_above a b).0)
        (anc_trans up r i (lowest up a b) b o (lowest_above a b).1)
        ∙ sym o
    | inl z ↦ elim (bit_cases (anc up i a)) [
      | inl y ↦ rw (y, z) (omega arith)
      | inr p ↦ elim (bit_cases (anc up i b)) [
        | inl y ↦ rw (y, z) (omega arith)
        | inr q ↦ absurd (omega (arith, z, above_lowest a b i p q))
      ]
    ]
  ]

  -- ---- where a node leaves

  parent_above : (i v : ℕ) → 1 ≤ i → bit (anc up i v) ≡ 1 → bit (anc up (up i) v) ≡ 1
  parent_above i v l h = anc_trans up r (up i) i v (anc_down up r (up i) i l (anc_self up r (up i))) h

  pub leaves_once : (i v : ℕ) → 1 ≤ i → leaves up i v + bit (anc up i v) ≡ bit (anc up (up i) v)
  unfolding leaves
  leaves_once i v l = without (anc up (up i) v) (anc up i v) (parent_above i v l)

  -- on the way down to l, the node v leaves at one of k edges, or lies at or below l
  leaves_above : (k v l : ℕ) → l ≤ k
      → sum k (λ j. bit (anc up (suc j) l) * leaves up (suc j) v) + bit (anc up l v) ≡ 1
  leaves_above k v = up_ind up r
      (λ l. l ≤ k → sum k (λ j. bit (anc up (suc j) l) * leaves up (suc j) v) + bit (anc up l v) ≡ 1)
      (λ h. omega (
        arith,
        sum_none k (λ j. bit (anc up (suc j) 0) * leaves up (suc j) v) (λ j m. none j),
        anc_root up r v,
      ))
      (λ w ih h. omega (
        arith,
        ih (omega (arith, r.falls w)),
        leaves_once (suc w) v (omega arith),
        sum_cong k (λ j. each w j),
        sum-add k (λ j. is w j * leaves up (suc j) v) (λ j. bit (anc up (suc j) (up (suc w))) * leaves up (suc j) v),
        sum_is k w (λ j. leaves up (suc j) v) (omega arith),
      ))
    where
      none : (j : ℕ) → bit (anc up (suc j) 0) * leaves up (suc j) v ≡ 0
      none j = rw (anc_at_zero up r (suc j), is_other_lem (suc j) 0 (omega arith)) (omega arith)

      spread : (x y z : ℕ) → (x + y) * z ≡ x * z + y * z
      spread x y z = omega arith

      same : (j w : ℕ) → is (suc j) (suc w) ≡ is w j
      same j w = rw eqb-suc-suc (is_sym j w)

      each : (w j : ℕ) → bit (anc up (suc j) (suc w)) * leaves up (suc j) v
          ≡ is w j * leaves up (suc j) v + bit (anc up (suc j) (up (suc w))) * leaves up (suc j) v
      each w j =
          ap (λ (z : ℕ). z * leaves up (suc j) v)
          (anc_up up r (suc j) w ∙ ap (λ (z : ℕ). z + bit (anc up (suc j) (up (suc w)))) (same j w))
          ∙ spread (is w j) (bit (anc up (suc j) (up (suc w)))) (leaves up (suc j) v)

  -- a and b are resolved against c if c leaves at an edge above both, and there is at most one such edge
  pub resolved-sum : (k a b c : ℕ) → a ≤ k
      → sum k (λ j. bit (anc up (suc j) a) * (bit (anc up (suc j) b) * leaves up (suc j) c))
      ≡ bit (resolved up a b c)
  unfolding resolved
  resolved-sum k a b c l = omega (
    arith,
    sum_cong k (λ j. each j),
    leaves_above k c (lowest up a b) (omega (arith, lowest-le a b)),
    bit_not (anc up (lowest up a b) c),
  )
    where
      group : (x y z : ℕ) → x * (y * z) ≡ x * y * z
      group x y z = omega arith

      each : (j : ℕ) → bit (anc up (suc j) a) * (bit (anc up (suc j) b) * leaves up (suc j) c)
          ≡ bit (anc up (suc j) (lowest up a b)) * leaves up (suc j) c
      each j = group (bit (anc up (suc j) a)) (bit (anc up (suc j) b)) (leaves up (suc j) c)
          ∙ ap (λ (z : ℕ). z * leaves up (suc j) c) (common_above a b (suc j))
