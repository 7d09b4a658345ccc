-- Three different leaves have exactly one centre, since a tree has one node more than it has edges.
-- Assumes nothing.
use Rattle.std.specs.Prelude.{◌≡◌, refl, Bool, true, false, not, ◌≢◌, ℕ, suc, ◌+◌, ◌*◌, ◌/◌, ◌≤◌, ◌<◌, eqb}
use Rattle.std.proofs.Common.{sym, ◌∙◌, ap, inl, inr, arith}
use Rattle.sums.specs.Sum.{sum}
use Rattle.sums.specs.theorems.SumLaws.{sum_ext, sum_cong, sum_const, sum-add, sum-mul_left, sum_one, sum-pos}
use Rattle.sums.specs.theorems.SumLaws.{sum-swap}
use Rattle.sums.specs.Bits.{bit, is}
use Rattle.sums.specs.theorems.BitLaws.{ne, bit_le, is_other_lem, is_sym, ne_other, alike, sum_is}
use Rattle.sums.specs.theorems.Products.{bit_sq}
use Rattle.sums.specs.theorems.Exclusion.{three_apart, inclusion_exclusion}
use Rattle.shapes.specs.theorems.AncestorLaws.{Rooted}
use Rattle.shapes.specs.Ancestors.{anc}
use Rattle.shapes.specs.Directions.{head, behind}
use Rattle.shapes.proofs.theorems.DirectionLaws.{head_even, head_odd, behind_even, behind_odd}
use Rattle.shapes.specs.theorems.DirectionLaws.{into}
use Rattle.shapes.proofs.theorems.DirectionLaws.{code_cases, sum_codes, one_way}
use Rattle.shapes.specs.theorems.Shape.{Leaf}

-- ---- one edge

-- of three nodes, two are on one side of an edge, and if all three are, three pairs are
bits3 : (x y z : Bool)
    → (bit x * bit y + bit (not x) * bit (not y))
    + (bit x * bit z + bit (not x) * bit (not z))
    + (bit y * bit z + bit (not y) * bit (not z))
    ≡ 1 + 2 * (bit x * (bit y * bit z) + bit (not x) * (bit (not y) * bit (not z)))
unfolding bit
bits3 true true true = refl
bits3 true true false = refl
bits3 true false true = refl
bits3 true false false = refl
bits3 false true true = refl
bits3 false true false = refl
bits3 false false true = refl
bits3 false false false = refl

-- ---- codes into one node

is_two : (a b x y : ℕ) → (is a b * x) * (is a b * y) ≡ is a b * (x * y)
is_two a b x y = omega (arith, ap (λ (z : ℕ). z * (x * y)) (bit_sq (eqb a b)))

is_three : (a b x y z : ℕ) → (is a b * x) * ((is a b * y) * (is a b * z)) ≡ is a b * (x * (y * z))
is_three a b x y z = ap (λ (w : ℕ). (is a b * x) * w) (is_two a b y z) ∙ is_two a b x (y * z)

pub into_pos : (up : ℕ → ℕ) (v x c : ℕ) → 1 ≤ into up v x c → (head up c ≡ v) × (bit (behind up c x) ≡ 1)
into_pos up v x c h = elim (alike v (head up c)) [
  | inl e ↦ (
    sym e.0,
    omega (arith, ap (λ (z : ℕ). z * bit (behind up c x)) e.1, bit_le (behind up c x)),
  )
  | inr d ↦ absurd (omega (arith, ap (λ (z : ℕ). z * bit (behind up c x)) d.1))
]

module _ (up : ℕ → ℕ) (r : Rooted up) (k : ℕ) where
  pub head-le : (c : ℕ) → c < 2 * k → head up c ≤ k
  head-le c l = elim (code_cases c) [
    | inl e ↦ rw (e, head_even) (omega (arith, r.falls (c / 2)))
    | inr e ↦ rw (e, head_odd) (omega arith)
  ]

  -- the one code into a leaf has all other nodes behind it
  leaf_pair : (v x y : ℕ) → v ≤ k → x ≤ k → y ≤ k → Leaf up k v → v ≢ x → v ≢ y
      → sum (2 * k) (λ c. into up v x c * into up v y c) ≡ 1
  leaf_pair v x y lv lx ly leaf nx ny =
      sum_one (2 * k) e _ s.1 (λ c l d. rw (away c l d) (omega arith))
      ∙ rw (only x lx nx, only y ly ny) refl
    where
      way : (z : ℕ) → z ≤ k → v ≢ z → sum (2 * k) (into up v z) ≡ 1
      way z l d = one_way up r k v z lv l ∙ ne_other v z d

      s : (c : ℕ) × (c < 2 * k) × (1 ≤ into up v x c)
      s = sum-pos (2 * k) (into up v x) (omega (arith, way x lx nx))

      e : ℕ
      e = s.0

      away : (c : ℕ) → c < 2 * k → c ≢ e → is v (head up c) ≡ 0
      away c l d =
          is_other_lem v (head up c) (λ h. d (leaf c e l s.1 (sym h) (into_pos up v x e s.2).0))

      only : (z : ℕ) → z ≤ k → v ≢ z → into up v z e ≡ 1
      only z l n =
          sym (sum_one (2 * k) e (into up v z) s.1 (λ c m d. rw (away c m d) (omega arith))) ∙ way z l n

  -- over the codes of all edges
  edges3 : (a c d : ℕ)
      → sum (2 * k) (λ e. bit (behind up e a) * bit (behind up e c))
      + sum (2 * k) (λ e. bit (behind up e a) * bit (behind up e d))
      + sum (2 * k) (λ e. bit (behind up e c) * bit (behind up e d))
      ≡ k + 2 * sum (2 * k) (λ e. bit (behind up e a) * (bit (behind up e c) * bit (behind up e d)))
  edges3 a c d = simp (sum_codes, behind_even, behind_odd, sum-add) (omega (
    arith,
    simp (sum-add, sum_const, sum-mul_left) at
        (sum_cong k (λ j. bits3 (anc up (suc j) a) (anc up (suc j) c) (anc up (suc j) d))),
  ))

  -- over all nodes, each code is counted once
  spread : (f : ℕ → ℕ) → sum (suc k) (λ v. sum (2 * k) (λ c. is v (head up c) * f c)) ≡ sum (2 * k) f
  spread f =
      sum-swap (suc k) (2 * k) (λ v c. is v (head up c) * f c)
      ∙ sum_ext (2 * k) _ f (λ c l.
      sum_cong (suc k) (λ v. ap (λ (z : ℕ). z * f c) (is_sym v (head up c)))
      ∙ sum_is (suc k) (head up c) (λ v. f c) (omega (arith, head-le c l)))

  spread2 : (x y : ℕ)
      → sum (suc k) (λ v. sum (2 * k) (λ c. into up v x c * into up v y c))
      ≡ sum (2 * k) (λ c. bit (behind up c x) * bit (behind up c y))
  spread2 x y = simp is_two (spread (λ c. bit (behind up c x) * bit (behind up c y)))

  spread3 : (x y z : ℕ)
      → sum (suc k) (λ v. sum (2 * k) (λ c. into up v x c * (into up v y c * into up v z c)))
      ≡ sum (2 * k) (λ c. bit (behind up c x) * (bit (behind up c y) * bit (behind up c z)))
  spread3 x y z =
      simp is_three (spread (λ c. bit (behind up c x) * (bit (behind up c y) * bit (behind up c z))))

-- ---- three leaves

module _ (up : ℕ → ℕ) (r : Rooted up) (k a c d : ℕ) (la : a ≤ k) (lc : c ≤ k) (ld : d ≤ k)
    (ta : Leaf up k a) (tc : Leaf up k c) (td : Leaf up k d) (ac : a ≢ c) (ad : a ≢ d) (cd : c ≢ d) where
  -- at one node
  node3 : (v : ℕ) → v ≤ k
      → three_apart (2 * k) (into up v a) (into up v c) (into up v d)
      + sum (2 * k) (λ e. into up v a e * into up v c e)
      + sum (2 * k) (λ e. into up v a e * into up v d e)
      + sum (2 * k) (λ e. into up v c e * into up v d e)
      ≡ 1 + 2 * sum (2 * k) (λ e. into up v a e * (into up v c e * into up v d e))
  node3 v lv = elim (alike v a) [
    | inl e ↦ omega (
      arith,
      rw (e.2, ne_other v c (omega arith), ne_other v d (omega arith)) at apart,
      leaf_pair up r k v c d lv lc ld (rw e.0 ta) (omega arith) (omega arith),
    )
    | inr n ↦ elim (alike v c) [
      | inl e ↦ omega (
        arith,
        rw (n.2, e.2, ne_other v d (omega arith)) at apart,
        leaf_pair up r k v a d lv la ld (rw e.0 tc) (omega arith) (omega arith),
      )
      | inr m ↦ elim (alike v d) [
        | inl e ↦ omega (
          arith,
          rw (n.2, m.2, e.2) at apart,
          leaf_pair up r k v a c lv la lc (rw e.0 td) (omega arith) (omega arith),
        )
        | inr q ↦ omega (arith, rw (n.2, m.2, q.2) at apart)
      ]
    ]
  ]
    where
      apart : three_apart (2 * k) (into up v a) (into up v c) (into up v d)
          + ne v a * sum (2 * k) (λ e. into up v c e * into up v d e)
          + sum (2 * k) (λ e. into up v a e * into up v d e) * ne v c
          + sum (2 * k) (λ e. into up v a e * into up v c e) * ne v d
          ≡ ne v a * (ne v c * ne v d)
          + 2 * sum (2 * k) (λ e. into up v a e * (into up v c e * into up v d e))
      apart =
          rw (← one_way up r k v a lv la, ← one_way up r k v c lv lc, ← one_way up r k v d lv ld)
          (inclusion_exclusion (2 * k) (into up v a) (into up v c) (into up v d))

  -- over all nodes, one triple of different codes into one node has a, c and d behind its three codes
  pub one-centre : sum (suc k) (λ v. three_apart (2 * k) (into up v a) (into up v c) (into up v d)) ≡ 1
  one-centre = omega (
    arith,
    simp (sum-add, sum_const, sum-mul_left, spread2 up r k, spread3 up r k) at
        (sum_ext (suc k) _ _ (λ v l. node3 v (omega arith))),
    edges3 up r k a c d,
  )
