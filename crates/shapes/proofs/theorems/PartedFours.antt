-- What a test of four nodes says in ordinary mathematics; at most one pairing of four is parted.
-- Assumes nothing.
use Rattle.std.specs.Prelude.{◌≡◌, refl, Bool, true, false, not, ◌↔◌, ℕ, zero, suc, ◌+◌, ◌≤◌, ◌<◌, T}
use Rattle.std.proofs.Common.{◌∙◌, ap, inl, inr, arith}
use Rattle.std.specs.Bool.{beq}
use Rattle.std.proofs.Math.Decide.{dec_le}
use Rattle.sums.specs.Bits.{bit}
use Rattle.sums.specs.theorems.BitLaws.{bit_cases, bit_inj}
use Rattle.sums.specs.theorems.TestLaws.{and-iff, beq_iff, same_test, some-iff}
use Rattle.shapes.specs.theorems.AncestorLaws.{Rooted}
use Rattle.shapes.proofs.theorems.AncestorLaws.{anc_trans, anc-line}
use Rattle.shapes.specs.Ancestors.{anc}
use Rattle.shapes.specs.Quartets.{parts, parted, Apart, Parted}
use Rattle.shapes.specs.theorems.PartedFours.{AtMostOne, first, none, second, third}

-- ---- the same in ordinary mathematics

same_bits : (x y : Bool) → T (beq x y) ↔ bit x ≡ bit y
same_bits x y = (λ t. ap bit ((beq_iff x y).0 t), λ e. (beq_iff x y).1 (bit_inj x y e))

other_bits : (x y : Bool) → T (not (beq x y)) ↔ bit x + bit y ≡ 1
unfolding bit
other_bits true true = (λ t. absurd t, λ e. omega arith)
other_bits true false = (λ t. refl, λ e. tt)
other_bits false true = (λ t. refl, λ e. tt)
other_bits false false = (λ t. absurd t, λ e. omega arith)

pub parts-iff : (up : ℕ → ℕ) (i a b c d : ℕ) → T (parts up i a b c d) ↔ Apart up i a b c d
unfolding parts
parts-iff up i a b c d = (
  λ t. let s = simp (and-iff, same_bits, other_bits) at t in record { ab = s.0.0; cd = s.0.1; ac = s.1 },
  λ h. simp (and-iff, same_bits, other_bits) ((h.ab, h.cd), h.ac),
)

pub parted-iff : (up : ℕ → ℕ) (k a b c d : ℕ) → T (parted up k a b c d) ↔ Parted up k a b c d
unfolding parted
parted-iff up k a b c d = (
  λ t. let s = (some-iff k _).0 t in
      (suc s.0, omega arith, s.1, (parts-iff up (suc s.0) a b c d).0 s.2),
  λ h. (some-iff k _).1 (index h.0 h.1 h.2 h.3),
)
  where
    index : (i : ℕ) → 1 ≤ i → i ≤ k → Apart up i a b c d
        → (j : ℕ) × (j < k) × T (parts up (suc j) a b c d)
    index zero l m h = absurd (omega arith)
    index (suc j) l m h = (j, m, (parts-iff up (suc j) a b c d).1 h)

-- ---- neither the order within a pair nor that of the pairs plays a part

-- what parts four nodes parts four others
moved : (up : ℕ → ℕ) (k a b c d w x y z : ℕ) → ((i : ℕ) → Apart up i a b c d → Apart up i w x y z)
    → T (parted up k a b c d) → T (parted up k w x y z)
moved up k a b c d w x y z f t =
    let s = (parted-iff up k a b c d).0 t in
    (parted-iff up k w x y z).1 (s.0, s.1, s.2, f s.0 s.3)

module _ (up : ℕ → ℕ) (k : ℕ) where
  pub parted-swap_left : (a b c d : ℕ) → parted up k a b c d ≡ parted up k b a c d
  parted-swap_left a b c d = same_test _ _ (go a b) (go b a)
    where
      go : (a b : ℕ) → T (parted up k a b c d) → T (parted up k b a c d)
      go a b = moved up k a b c d b a c d (λ i h. omega arith)

  pub parted_turn : (a b c d : ℕ) → parted up k a b c d ≡ parted up k c d a b
  parted_turn a b c d = same_test _ _ (go a b c d) (go c d a b)
    where
      go : (a b c d : ℕ) → T (parted up k a b c d) → T (parted up k c d a b)
      go a b c d = moved up k a b c d c d a b (λ i h. omega arith)

  pub parted-swap_right : (a b c d : ℕ) → parted up k a b c d ≡ parted up k a b d c
  parted-swap_right a b c d =
      parted_turn a b c d ∙ parted-swap_left c d a b ∙ parted_turn d c a b

-- ---- at most one of the three pairings is parted

at_most_one : (x y z : Bool) → (T x → T y → ⊥) → (T x → T z → ⊥) → (T y → T z → ⊥) → AtMostOne x y z
at_most_one true true z f g h = absurd (f tt tt)
at_most_one true false true f g h = absurd (g tt tt)
at_most_one true false false f g h = first
at_most_one false true true f g h = absurd (h tt tt)
at_most_one false true false f g h = second
at_most_one false false true f g h = third
at_most_one false false false f g h = none

module _ (up : ℕ → ℕ) (r : Rooted up) where
  -- of two edges above a node x, one is above all that the other is above
  nested : (i j x y z : ℕ)
      → (bit (anc up i x) ≡ 1) × (bit (anc up i y) ≡ 1) × (bit (anc up i z) ≡ 0)
      → (bit (anc up j x) ≡ 1) × (bit (anc up j y) ≡ 0) × (bit (anc up j z) ≡ 1) → ⊥
  nested i j x y z f g = elim (dec_le i j) [
    | yes l ↦ omega (arith, anc_trans up r i j z (anc-line up r i j x l f.0 g.0) g.2)
    | no m ↦ omega (arith, anc_trans up r j i y (anc-line up r j i x (omega arith) g.0 f.0) f.1)
  ]

  -- two edges do not part four nodes in two ways
  clash : (i j a b c d : ℕ) → Apart up i a b c d → Apart up j a c b d → ⊥
  clash i j a b c d s t = elim (bit_cases (anc up i a)) [
    | inl x ↦ elim (bit_cases (anc up j a)) [
      | inl y ↦ nested i j d c b (omega arith) (omega arith)
      | inr y ↦ nested i j c d a (omega arith) (omega arith)
    ]
    | inr x ↦ elim (bit_cases (anc up j a)) [
      | inl y ↦ nested i j b a d (omega arith) (omega arith)
      | inr y ↦ nested i j a b c (omega arith) (omega arith)
    ]
  ]

  pub parted_exclusive : (k a b c d : ℕ) → T (parted up k a b c d) → T (parted up k a c b d) → ⊥
  parted_exclusive k a b c d t u =
      let s = (parted-iff up k a b c d).0 t in
      let q = (parted-iff up k a c b d).0 u in
      clash s.0 q.0 a b c d s.3 q.3

  pub one-pairing : (k a b c d : ℕ)
      → AtMostOne (parted up k a b c d) (parted up k a c b d) (parted up k a d b c)
  one-pairing k a b c d = at_most_one _ _ _ (parted_exclusive k a b c d)
      (λ t u. parted_exclusive k a b d c (rw (parted-swap_right up k a b c d) at t) u)
      (λ t u. parted_exclusive k a c d b (rw (parted-swap_right up k a c b d) at t)
      (rw (parted-swap_right up k a d b c) at u))
