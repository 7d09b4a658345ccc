-- Bits of tests, and of equal and different numbers.
-- Assumes nothing.
use Rattle.std.specs.Prelude.{◌≡◌, refl, Bool, true, false, not, ◌||◌, ◌⊎◌, ◌≢◌, ℕ, ◌+◌, ◌*◌, ◌≤◌, ◌<◌, T, eqb}
use Rattle.std.proofs.Common.{sym, ◌∙◌, ap, inl, inr, arith, eqb→eq}
use Rattle.std.proofs.Math.Decide.{ℕ_discrete}
use Rattle.std.proofs.Math.Dec.{eqb_refl}
use Rattle.sums.specs.Sum.{sum}
use Rattle.sums.specs.theorems.SumLaws.{sum_one}
use Rattle.sums.specs.Bits.{bit, is}

-- different numbers, as a bit
abbrev pub ne : ℕ → ℕ → ℕ
ne a b = bit (not (eqb a b))

pub bit_le : (b : Bool) → bit b ≤ 1
unfolding bit
bit_le true = omega arith
bit_le false = omega arith

pub bit_cases : (b : Bool) → (bit b ≡ 0) ⊎ (bit b ≡ 1)
unfolding bit
bit_cases true = inr refl
bit_cases false = inl refl

pub bit_not : (b : Bool) → bit b + bit (not b) ≡ 1
unfolding bit
bit_not true = refl
bit_not false = refl

pub bit_or : (a b : Bool) → bit (a || b) + bit a * bit b ≡ bit a + bit b
unfolding bit
bit_or true true = refl
bit_or true false = refl
bit_or false true = refl
bit_or false false = refl

-- ---- bits and tests

pub T_true : (b : Bool) → T b → b ≡ true
T_true true t = refl
T_true false t = absurd t

pub T_false : (b : Bool) → (T b → ⊥) → b ≡ false
T_false true t = absurd (t tt)
T_false false t = refl

pub bit-T : (b : Bool) → T b → bit b ≡ 1
unfolding bit
bit-T true t = refl
bit-T false t = absurd t

pub bit_no : (b : Bool) → (T b → ⊥) → bit b ≡ 0
unfolding bit
bit_no true t = absurd (t tt)
bit_no false t = refl

pub T-bit : (b : Bool) → 1 ≤ bit b → T b
unfolding bit
T-bit true h = tt
T-bit false h = absurd (omega arith)

pub bit_mono : (a b : Bool) → (T a → T b) → bit a ≤ bit b
unfolding bit
bit_mono true b h = omega (arith, bit-T b (h tt))
bit_mono false b h = omega arith

-- two tests with equal bits are one
pub bit_inj : (a b : Bool) → bit a ≡ bit b → a ≡ b
unfolding bit
bit_inj true true h = refl
bit_inj true false h = absurd (omega arith)
bit_inj false true h = absurd (omega arith)
bit_inj false false h = refl

-- ---- equal and different numbers, as bits

pub is_self : (a : ℕ) → is a a ≡ 1
is_self a = ap bit (T_true (eqb a a) (eqb_refl a)) ∙ (unfold bit in refl)

pub is_other_lem : (a b : ℕ) → a ≢ b → is a b ≡ 0
is_other_lem a b h = bit_no (eqb a b) (λ t. h (eqb→eq a b t))

pub is_eq : (a b : ℕ) → a ≡ b → is a b ≡ 1
is_eq a b e = rw e (is_self b)

pub is_ne : (a b : ℕ) → is a b + ne a b ≡ 1
is_ne a b = bit_not (eqb a b)

pub ne_self : (a : ℕ) → ne a a ≡ 0
ne_self a = omega (arith, is_ne a a, is_self a)

pub ne_other : (a b : ℕ) → a ≢ b → ne a b ≡ 1
ne_other a b h = omega (arith, is_ne a b, is_other_lem a b h)

-- two numbers are equal or not, as the bits say it
pub alike : (a b : ℕ)
    → ((a ≡ b) × (is a b ≡ 1) × (ne a b ≡ 0)) ⊎ ((a ≢ b) × (is a b ≡ 0) × (ne a b ≡ 1))
alike a b = elim (ℕ_discrete a b) [
  | yes e ↦ (let h : is a b ≡ 1 = is_eq a b e in inl (e, h, omega (arith, is_ne a b)))
  | no d ↦ (let h : is a b ≡ 0 = is_other_lem a b d in inr (d, h, omega (arith, is_ne a b)))
]

pub is_sym : (a b : ℕ) → is a b ≡ is b a
is_sym a b = elim (alike a b) [
  | inl e ↦ omega (arith, e.1, is_eq b a (sym e.0))
  | inr d ↦ omega (arith, d.1, is_other_lem b a (λ e. d.0 (sym e)))
]

pub ne_sym : (a b : ℕ) → ne a b ≡ ne b a
ne_sym a b = omega (arith, is_ne a b, is_ne b a, is_sym a b)

-- the one term at k
pub sum_is : (n k : ℕ) (f : ℕ → ℕ) → k < n → sum n (λ i. is k i * f i) ≡ f k
sum_is n k f l =
    sum_one n k (λ i. is k i * f i) l (λ i m h. rw (is_other_lem k i (λ e. h (sym e))) (omega arith))
    ∙ rw is_self (omega arith)
