-- Laws of finite sums: equal terms, constants, sums and products, order of summation, few terms that count.
-- Assumes nothing.
use Rattle.std.specs.Prelude.{◌≡◌, refl, ◌≢◌, ℕ, zero, suc, ◌+◌, ◌*◌, ◌≤◌, ◌<◌}
use Rattle.std.proofs.Common.{sym, ◌∙◌, ap, ap₂, inl, inr, eq-or-lt_of_le, le_of_suc-le-suc, eq-zero-or-pos, add-one, arith}
use Rattle.std.proofs.Math.Path.{fun_ext}
use Rattle.std.proofs.Math.Decide.{ℕ_discrete}
use Rattle.sums.specs.Sum.{sum}

pub sum-suc : (n : ℕ) (f : ℕ → ℕ) → sum (suc n) f ≡ sum n f + f n
unfolding sum
sum-suc n f = refl

-- one more term, as a loop finds it ..
pub sum_next : (n : ℕ) (f : ℕ → ℕ) → sum (n + 1) f ≡ sum n f + f n
sum_next n f = rw add-one (sum-suc n f)

-- .. added to what there is
pub sum_step : (n : ℕ) (f : ℕ → ℕ) (s x : ℕ) → s ≡ sum n f → x ≡ f n → s + x ≡ sum (n + 1) f
sum_step n f s x e d = ap₂ (λ (y z : ℕ). y + z) e d ∙ sym (sum_next n f)

-- the first term, and the others
pub sum_first : (n : ℕ) (f : ℕ → ℕ) → sum (suc n) f ≡ f 0 + sum n (λ i. f (suc i))
unfolding sum
sum_first zero f = omega arith
sum_first (suc n) f = omega (arith, sum_first n f)

-- ---- equal terms

pub sum_ext : (n : ℕ) (f g : ℕ → ℕ) → ((i : ℕ) → i < n → f i ≡ g i) → sum n f ≡ sum n g
unfolding sum
sum_ext zero f g h = refl
sum_ext (suc n) f g h =
    omega (arith, sum_ext n f g (λ i l. h i (omega arith)), h n (omega arith))

-- terms that are equal everywhere
pub sum_cong : (n : ℕ) {f g : ℕ → ℕ} → ((i : ℕ) → f i ≡ g i) → sum n f ≡ sum n g
sum_cong n h = ap (sum n) (fun_ext h)

pub sum_mono : (n : ℕ) (f g : ℕ → ℕ) → ((i : ℕ) → i < n → f i ≤ g i) → sum n f ≤ sum n g
unfolding sum
sum_mono zero f g h = omega arith
sum_mono (suc n) f g h =
    omega (arith, sum_mono n f g (λ i l. h i (omega arith)), h n (omega arith))

-- ---- constant terms

pub sum-zero : (n : ℕ) → sum n (λ i. 0) ≡ 0
unfolding sum
sum-zero zero = refl
sum-zero (suc n) = omega (arith, sum-zero n)

pub sum_const : (n c : ℕ) → sum n (λ i. c) ≡ n * c
unfolding sum
sum_const zero c = omega arith
sum_const (suc n) c = omega (arith, sum_const n c)

-- ---- sums of sums and of products

pub sum-add : (n : ℕ) (f g : ℕ → ℕ) → sum n (λ i. f i + g i) ≡ sum n f + sum n g
unfolding sum
sum-add zero f g = refl
sum-add (suc n) f g = omega (arith, sum-add n f g)

pub sum-mul_left : (n c : ℕ) (f : ℕ → ℕ) → sum n (λ i. c * f i) ≡ c * sum n f
unfolding sum
sum-mul_left zero c f = omega arith
sum-mul_left (suc n) c f = omega (arith, sum-mul_left n c f)

pub sum-mul_right : (n c : ℕ) (f : ℕ → ℕ) → sum n (λ i. f i * c) ≡ sum n f * c
unfolding sum
sum-mul_right zero c f = omega arith
sum-mul_right (suc n) c f = omega (arith, sum-mul_right n c f)

-- the order of summation plays no part
pub sum-swap : (m n : ℕ) (f : ℕ → ℕ → ℕ)
    → sum m (λ i. sum n (λ j. f i j)) ≡ sum n (λ j. sum m (λ i. f i j))
unfolding sum
sum-swap zero n f = sym (sum-zero n)
sum-swap (suc m) n f =
    omega (arith, sum-swap m n f, sum-add n (λ j. sum m (λ i. f i j)) (f m))

-- ---- few terms that count

-- nothing but zeros
pub sum_none : (n : ℕ) (f : ℕ → ℕ) → ((i : ℕ) → i < n → f i ≡ 0) → sum n f ≡ 0
sum_none n f h = sum_ext n f (λ i. 0) h ∙ sum-zero n

-- zeros but for one index
pub sum_one : (n k : ℕ) (f : ℕ → ℕ) → k < n
    → ((i : ℕ) → i < n → i ≢ k → f i ≡ 0) → sum n f ≡ f k
unfolding sum
sum_one zero k f l h = absurd (omega arith)
sum_one (suc n) k f l h = elim (eq-or-lt_of_le (le_of_suc-le-suc l)) [
  | inl e ↦ omega (arith, sum_none n f (λ i m. h i (omega arith) (omega arith)), ap f e)
  | inr m ↦ omega (arith, sum_one n k f m (λ i q d. h i (omega arith) d), h n (omega arith) (omega arith))
]

-- a term is at most the sum
pub sum-ge : (n : ℕ) (f : ℕ → ℕ) (i : ℕ) → i < n → f i ≤ sum n f
unfolding sum
sum-ge zero f i l = absurd (omega arith)
sum-ge (suc n) f i l = elim (ℕ_discrete i n) [
  | yes e ↦ omega (arith, ap f e)
  | no h ↦ omega (arith, sum-ge n f i (omega arith))
]

-- so are two terms together
pub sum_two : (n : ℕ) (f : ℕ → ℕ) (i j : ℕ) → i < n → j < n → i ≢ j → f i + f j ≤ sum n f
unfolding sum
sum_two zero f i j li lj h = absurd (omega arith)
sum_two (suc n) f i j li lj h = elim (ℕ_discrete i n) [
  | yes e ↦ omega (arith, ap f e, sum-ge n f j (omega arith))
  | no d ↦ elim (ℕ_discrete j n) [
    | yes e ↦ omega (arith, ap f e, sum-ge n f i (omega arith))
    | no g ↦ omega (arith, sum_two n f i j (omega arith) (omega arith) h)
  ]
]

-- a sum that is not 0 has a term that is not 0
pub sum-pos : (n : ℕ) (f : ℕ → ℕ) → 1 ≤ sum n f → (i : ℕ) × (i < n) × (1 ≤ f i)
unfolding sum
sum-pos zero f h = absurd (omega arith)
sum-pos (suc n) f h = elim (eq-zero-or-pos (f n)) [
  | inl e ↦ (let r = sum-pos n f (omega arith) in (r.0, omega (arith, r.1), r.2))
  | inr l ↦ (n, omega arith, l)
]

-- terms of which at most one is not 0, and that one is 1
pub sum_at_most_one : (n : ℕ) (f : ℕ → ℕ) → ((i : ℕ) → i < n → f i ≤ 1)
    → ((i j : ℕ) → i < n → j < n → 1 ≤ f i → 1 ≤ f j → i ≡ j) → sum n f ≤ 1
unfolding sum
sum_at_most_one zero f a b = omega arith
sum_at_most_one (suc n) f a b = elim (eq-zero-or-pos (f n)) [
  | inl z ↦ omega (arith, sum_at_most_one n f (λ i l. a i (omega arith)) (λ i j li lj. b i j (omega arith) (omega arith)))
  | inr p ↦ omega (
    arith,
    a n (omega arith),
    sum_none n f (λ i l. elim (eq-zero-or-pos (f i)) [
      | inl z ↦ z
      | inr q ↦ absurd (omega (arith, b i n (omega arith) (omega arith) q p))
    ]),
  )
]

-- n terms of at most 1 that come to n or more are each 1
pub sum-all-ones : (n : ℕ) (f : ℕ → ℕ) → ((i : ℕ) → i < n → f i ≤ 1) → n ≤ sum n f → (i : ℕ) → i < n → 1 ≤ f i
unfolding sum
sum-all-ones zero f a b i l = absurd (omega arith)
sum-all-ones (suc n) f a b i l =
    let t = sum_mono n f (λ j. 1) (λ j q. a j (omega arith)) in
    let c = sum_const n 1 in
    let fn = a n (omega arith) in
    elim (eq-or-lt_of_le (le_of_suc-le-suc l)) [
      | inl e ↦ rw e (omega arith)
      | inr q ↦ sum-all-ones n f (λ j m. a j (omega arith)) (omega arith) i q
    ]

-- ---- partial sums

pub sum-part : (j n : ℕ) (f : ℕ → ℕ) → j ≤ n → sum j f ≤ sum n f
unfolding sum
sum-part zero zero f l = omega arith
sum-part (suc j) zero f l = absurd (omega arith)
sum-part j (suc n) f l = elim (eq-or-lt_of_le l) [
  | inl e ↦ omega (arith, ap (λ (x : ℕ). sum x f) e)
  | inr m ↦ omega (arith, sum-part j n f (omega arith))
]

-- whole rows of a table of m rows and n columns, and the beginning of the next row
pub rows_part : (i m j n : ℕ) (f : ℕ → ℕ → ℕ) → i < m → j ≤ n
    → sum i (λ a. sum n (f a)) + sum j (f i) ≤ sum m (λ a. sum n (f a))
rows_part i m j n f li lj = omega (
  arith,
  sum-part j n (f i) lj,
  sum-suc i (λ a. sum n (f a)),
  sum-part (suc i) m (λ a. sum n (f a)) li,
)
