-- How many indices pass a test: none, one, exactly one, two.
-- Assumes nothing.
use Rattle.std.specs.Prelude.{◌≡◌, Bool, ◌↔◌, ℕ, zero, suc, ◌≤◌, ◌<◌, T}
use Rattle.std.proofs.Common.{◌∙◌, inl, inr, arith, T_not}
use Rattle.std.proofs.Math.Decide.{ℕ_discrete}
use Rattle.sums.specs.Sum.{sum}
use Rattle.sums.specs.theorems.SumLaws.{sum_none, sum_one, sum-ge, sum_two, sum-pos, sum_mono, sum_const}
use Rattle.sums.specs.Bits.{bit}
use Rattle.sums.specs.theorems.BitLaws.{bit_le, bit-T, bit_no, T-bit}
use Rattle.sums.specs.theorems.TestLaws.{T_dec}
use Rattle.sums.specs.Counts.{count, Twice}

pub count-le : (n : ℕ) (q : ℕ → Bool) → count n q ≤ n
count-le n q =
    omega (arith, sum_mono n (λ i. bit (q i)) (λ i. 1) (λ i l. bit_le (q i)), sum_const n 1)

pub count_none : (n : ℕ) (q : ℕ → Bool) → (count n q ≡ 0) ↔ ((i : ℕ) → i < n → T (q i) → ⊥)
count_none n q = (
  λ e i l t. omega (arith, sum-ge n (λ x. bit (q x)) i l, bit-T (q i) t),
  λ h. sum_none n (λ x. bit (q x)) (λ i l. bit_no (q i) (h i l)),
)

pub count-pos : (n : ℕ) (q : ℕ → Bool) → (1 ≤ count n q) ↔ (i : ℕ) × (i < n) × T (q i)
count-pos n q = (
  λ h. let r = sum-pos n (λ x. bit (q x)) h in (r.0, r.1, T-bit (q r.0) r.2),
  λ h. omega (arith, sum-ge n (λ x. bit (q x)) h.0 h.1, bit-T (q h.0) h.2),
)

-- exactly one
abbrev pub Once : ℕ → (ℕ → Bool) → Type 0
Once n q = (i : ℕ) × (i < n) × T (q i) × ((j : ℕ) → j < n → T (q j) → j ≡ i)

pub count_once : (n : ℕ) (q : ℕ → Bool) → (count n q ≡ 1) ↔ Once n q
count_once n q = (
  λ e. let r = (count-pos n q).0 (omega arith) in (r.0, r.1, r.2, λ j l t. only r j l t e),
  λ h. sum_one n h.0 (λ x. bit (q x)) h.1 (λ j l d. bit_no (q j) (λ t. d (h.3 j l t)))
      ∙ bit-T (q h.0) h.2,
)
  where
    only : (r : (i : ℕ) × (i < n) × T (q i)) (j : ℕ) → j < n → T (q j) → count n q ≡ 1 → j ≡ r.0
    only r j l t e = elim (ℕ_discrete j r.0) [
      | yes d ↦ d
      | no d ↦ absurd (omega (
        arith,
        sum_two n (λ x. bit (q x)) j r.0 l r.1 d,
        bit-T (q j) t,
        bit-T (q r.0) r.2,
      ))
    ]

twice_of : (n : ℕ) (q : ℕ → Bool) → 2 ≤ count n q → Twice n q
unfolding sum
twice_of zero q h = absurd (omega arith)
twice_of (suc n) q h = elim (T_dec (q n)) [
  | inl y ↦ (let r = (count-pos n q).0 (omega (arith, bit-T (q n) y)) in
      (r.0, n, r.1, omega arith, r.2, y))
  | inr z ↦ (let r = twice_of n q (omega (arith, bit_no (q n) (T_not (q n) z))) in
      (r.0, r.1, r.2, omega (arith, r.3), r.4, r.5))
]

pub count_twice : (n : ℕ) (q : ℕ → Bool) → (2 ≤ count n q) ↔ Twice n q
count_twice n q = (
  twice_of n q,
  λ h. omega (
    arith,
    sum_two n (λ x. bit (q x)) h.0 h.1 (omega (arith, h.2, h.3)) h.3 (omega (arith, h.2)),
    bit-T (q h.0) h.4,
    bit-T (q h.1) h.5,
  ),
)
