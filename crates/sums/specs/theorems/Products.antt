-- Products of bits, and products of sums as sums over tuples.
-- Assumes nothing.
use Rattle.std.specs.Prelude.{◌≡◌, refl, Bool, true, false, not, ◌&&◌, ◌≢◌, ℕ, zero, suc, ◌+◌, ◌*◌, ◌≤◌, ◌<◌, eqb}
use Rattle.std.proofs.Common.{◌∙◌, ap₂, inl, inr, mul-le-mul, arith}
use Rattle.std.proofs.Math.Path.{ap}
use Rattle.sums.specs.Sum.{sum}
use Rattle.sums.specs.theorems.SumLaws.{sum_ext, sum_cong, sum-add, sum-mul_left, sum-mul_right}
use Rattle.sums.specs.Bits.{bit, is}
use Rattle.sums.specs.theorems.BitLaws.{ne, is_ne, ne_self, ne_other, ne_sym, alike, sum_is}
use Rattle.sums.specs.theorems.SetLaws.{tuples2, tuples3, tuples4, twice}
use Rattle.sums.specs.SetsOfFour.{sets2}

pub bit_sq : (b : Bool) → bit b * bit b ≡ bit b
unfolding bit
bit_sq true = refl
bit_sq false = refl

pub bit_and : (a b : Bool) → bit (a && b) ≡ bit a * bit b
unfolding bit
bit_and true true = refl
bit_and true false = refl
bit_and false true = refl
bit_and false false = refl

-- a bit in both factors counts once
pub ne_once : (a b x y : ℕ) → (ne a b * x) * (ne a b * y) ≡ ne a b * (x * y)
ne_once a b x y = omega (arith, ap (λ (z : ℕ). z * (x * y)) (bit_sq (not (eqb a b))))

-- a product of low numbers is low
pub product_le : (p q x y : ℕ) → x ≤ p → y ≤ q → x * y ≤ p * q
product_le p q x y l m = mul-le-mul l m

-- ---- a product that is not 0 has no factor 0

pub times_pos : (x y : ℕ) → 1 ≤ x * y → (1 ≤ x) × (1 ≤ y)
times_pos zero y h = absurd (omega arith)
times_pos (suc x) zero h = absurd (omega arith)
times_pos (suc x) (suc y) h = omega arith

pub ne_times_pos : (a b x : ℕ) → 1 ≤ ne a b * x → (a ≢ b) × (1 ≤ x)
ne_times_pos a b x h = elim (alike a b) [
  | inl e ↦ absurd (omega (arith, rw e.2 at h))
  | inr d ↦ (d.0, omega (arith, rw d.2 at h))
]

-- ---- sums

-- all indices but k
pub sum-ne : (n k : ℕ) (f : ℕ → ℕ) → k < n → sum n (λ i. ne k i * f i) + f k ≡ sum n f
sum-ne n k f l = omega (
  arith,
  sum_is n k f l,
  sum-add n (λ i. is k i * f i) (λ i. ne k i * f i),
  sum_cong n (λ i. either i),
)
  where
    either : (i : ℕ) → is k i * f i + ne k i * f i ≡ f i
    either i = omega (arith, ap (λ (x : ℕ). x * f i) (is_ne k i))

-- two different indices in either order
pub twice_apart : (n : ℕ) (f : ℕ → ℕ → ℕ) → ((a b : ℕ) → f a b ≡ f b a)
    → tuples2 n (λ a b. ne a b * f a b) ≡ 2 * sets2 n f
twice_apart n f s =
    twice n (λ a b. ne a b * f a b) (λ a b. ap₂ (λ (x y : ℕ). x * y) (ne_sym a b) (s a b))
    (λ a. ap (λ (x : ℕ). x * f a a) (ne_self a) ∙ omega arith)
    ∙ ap (λ (x : ℕ). 2 * x) rising
  where
    rising : sets2 n (λ a b. ne a b * f a b) ≡ sets2 n f
    rising = unfold sets2 in sum_cong n (λ b. sum_ext b _ _ (λ a l.
        ap (λ (x : ℕ). x * f a b) (ne_other a b (λ e. omega arith)) ∙ omega arith))

pub tuples2_times_sums : (n : ℕ) (f : ℕ → ℕ → ℕ) (g h : ℕ → ℕ)
    → tuples2 n f * (sum n g * sum n h) ≡ tuples4 n (λ a b c d. f a b * (g c * h d))
unfolding tuples4 tuples3 tuples2
tuples2_times_sums n f g h = simp (sum-mul_left, sum-mul_right)

pub four_sums : (n : ℕ) (e f g h : ℕ → ℕ)
    → sum n e * sum n f * (sum n g * sum n h) ≡ tuples4 n (λ a b c d. e a * f b * (g c * h d))
unfolding tuples4 tuples3 tuples2
four_sums n e f g h = simp (sum-mul_left, sum-mul_right)
