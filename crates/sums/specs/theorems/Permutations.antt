-- Different numbers below n for each number below n: each is taken once, and sums over them are the sums over all.
-- Assumes nothing.
use Rattle.std.specs.Prelude.{◌≡◌, ℕ, zero, suc, ◌*◌, ◌≤◌, ◌<◌}
use Rattle.std.proofs.Common.{sym, ◌∙◌, ap, inl, inr, eq-zero-or-pos, eq-or-lt_of_le, le_of_suc-le-suc, arith}
use Rattle.sums.specs.Sum.{sum}
use Rattle.sums.specs.theorems.SumLaws.{sum_ext, sum_none, sum_one, sum_mono, sum_const, sum-swap, sum-mul_right, sum-pos}
use Rattle.sums.specs.Bits.{is}
use Rattle.sums.specs.theorems.BitLaws.{bit_le, is_self, is_other_lem, alike, sum_is}

few : (n : ℕ) (f : ℕ → ℕ) → ((i : ℕ) → i < n → f i ≤ 1)
    → ((i j : ℕ) → i < n → j < n → 1 ≤ f i → 1 ≤ f j → i ≡ j) → sum n f ≤ 1
unfolding sum
few zero f a b = omega arith
few (suc n) f a b = elim (eq-zero-or-pos (f n)) [
  | inl z ↦ omega (arith, few n f (λ i l. a i (omega arith)) (λ i j li lj. b i j (omega arith) (omega arith)))
  | inr p ↦ omega (
    arith,
    a n (omega arith),
    sum_none n f (λ i l. elim (eq-zero-or-pos (f i)) [
      | inl z ↦ z
      | inr q ↦ absurd (omega (arith, b i n (omega arith) (omega arith) q p))
    ]),
  )
]

all_ones : (n : ℕ) (f : ℕ → ℕ) → ((i : ℕ) → i < n → f i ≤ 1) → n ≤ sum n f → (i : ℕ) → i < n → 1 ≤ f i
unfolding sum
all_ones zero f a b i l = absurd (omega arith)
all_ones (suc n) f a b i l =
    let t = sum_mono n f (λ j. 1) (λ j q. a j (omega arith)) in
    let c = sum_const n 1 in
    let fn = a n (omega arith) in
    elim (eq-or-lt_of_le (le_of_suc-le-suc l)) [
      | inl e ↦ rw e (omega arith)
      | inr q ↦ all_ones n f (λ j m. a j (omega arith)) (omega arith) i q
    ]

module _ (n : ℕ) (σ : ℕ → ℕ) (inside : (i : ℕ) → i < n → σ i < n)
    (one : (i j : ℕ) → i < n → j < n → σ i ≡ σ j → i ≡ j) where
  ones : (a : ℕ) → a < n → sum n (is a) ≡ 1
  ones a l = sum_one n a (is a) l (λ x m d. is_other_lem a x (λ e. d (sym e))) ∙ is_self a

  eq_of : (v i : ℕ) → 1 ≤ is (σ v) i → σ v ≡ i
  eq_of v i q = elim (alike (σ v) i) [ inl e ↦ e.0 | inr d ↦ absurd (omega (arith, d.1)) ]

  -- each number is taken once
  taken_most : (i : ℕ) → sum n (λ v. is (σ v) i) ≤ 1
  taken_most i = few n (λ v. is (σ v) i) (λ v lv. bit_le _) (λ v w lv lw a b. one v w lv lw (eq_of v i a ∙ sym (eq_of w i b)))

  taken-all : n ≤ sum n (λ i. sum n (λ v. is (σ v) i))
  taken-all = omega (
    arith,
    sum-swap n n (λ i v. is (σ v) i),
    sum_ext n (λ v. sum n (λ i. is (σ v) i)) (λ v. 1) (λ v lv. ones (σ v) (inside v lv)),
    sum_const n 1,
  )

  taken : (i : ℕ) → i < n → sum n (λ v. is (σ v) i) ≡ 1
  taken i l = omega (arith, taken_most i, all_ones n (λ i. sum n (λ v. is (σ v) i)) (λ i li. taken_most i) taken-all i l)

  -- .. so each is taken
  pub onto : (i : ℕ) → i < n → (v : ℕ) × (v < n) × (σ v ≡ i)
  onto i l =
      let r = sum-pos n (λ v. is (σ v) i) (omega (arith, taken i l)) in
      (r.0, r.1, eq_of r.0 i r.2)

  -- and a sum may be taken in that order
  pub sum_permuted : (f : ℕ → ℕ) → sum n (λ i. f (σ i)) ≡ sum n f
  sum_permuted f =
      sum_ext n _ _ (λ i l. sym (sum_is n (σ i) f (inside i l)))
      ∙ sum-swap n n (λ i j. is (σ i) j * f j)
      ∙ sum_ext n _ _ (λ j l.
      sum-mul_right n (f j) (λ i. is (σ i) j) ∙ ap (λ (s : ℕ). s * f j) (taken j l) ∙ omega arith)
