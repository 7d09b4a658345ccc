-- There are k(k − 1)(k − 2)(k − 3)/24 sets of four, for every k.
-- Assumes nothing.
use Rattle.std.specs.Prelude.{◌≡◌, ℕ, zero, suc, ◌+◌, ◌*◌, ◌-◌, ◌/◌, ◌≤◌, ◌<◌}
use Rattle.std.proofs.Math.Path.{refl}
use Rattle.std.proofs.Common.{sym, ◌∙◌, ap, le_of_eq, lt_of_not-le, arith}
use Rattle.std.proofs.Math.Decide.{dec_le}
use Rattle.sums.specs.Sum.{sum}
use Rattle.sums.specs.theorems.SumLaws.{sum_const}
use Rattle.sums.specs.SetsOfFour.{sets2, sets3, sets4}
use Rattle.sums.specs.Fours.{fours}

-- how many sets of four labels below k there are: w < x < y < z, each counted once
unfoldable pub sets_of_four : ℕ → ℕ
sets_of_four k = sets4 k (λ w x y z. 1)

-- ---- sets of two, three and four, with no subtraction

twos : (k : ℕ) → 2 * sets2 (suc k) (λ x y. 1) ≡ suc k * k
unfolding sets2 sum
twos zero = refl
twos (suc k) = omega (arith, twos k, sum_const k 1)

-- there are k(k − 1)/2 sets of two
pub pairs_count : (k : ℕ) → sets2 k (λ x y. 1) ≡ k * (k - 1) / 2
pairs_count zero = unfold sets2 sum in refl
pairs_count (suc k) =
    let e : suc k - 1 ≡ k = omega arith in
    rw e (half (sets2 (suc k) (λ x y. 1)) (suc k * k) (twos k))
  where
    half : (x y : ℕ) → 2 * x ≡ y → x ≡ y / 2
    half x y h = omega arith

pub three_sets : (k : ℕ) → 6 * sets3 (suc (suc k)) (λ x y z. 1) ≡ suc (suc k) * (suc k * k)
unfolding sets3 sets2 sum
three_sets zero = refl
three_sets (suc k) = omega (arith, three_sets k, twos (suc k))

one_more : (k a b c x y : ℕ) → 24 * x ≡ a * (b * (c * k)) → 6 * y ≡ a * (b * c)
    → 24 * (x + y) ≡ suc (suc (suc (suc k))) * (a * (b * c))
one_more k a b c x y h g = omega arith

four_sets : (k : ℕ) → 24 * sets_of_four (suc (suc (suc k))) ≡ suc (suc (suc k)) * (suc (suc k) * (suc k * k))
unfolding sets_of_four sets4 sets3 sets2 sum
four_sets zero = refl
four_sets (suc k) =
    one_more k (suc (suc (suc k))) (suc (suc k)) (suc k) (sets_of_four (suc (suc (suc k))))
    (sets3 (suc (suc (suc k))) (λ x y z. 1)) (four_sets k) (three_sets (suc k))

-- ---- the formula, also where a factor would be below 0

product : (k : ℕ) → 24 * sets_of_four k ≡ k * (k - 1) * (k - 2) * (k - 3)
unfolding sets_of_four sets4 sets3 sets2 sum
product zero = refl
product (suc zero) = refl
product (suc (suc zero)) = refl
product (suc (suc (suc k))) =
    let one : suc (suc (suc k)) - 1 ≡ suc (suc k) = omega arith in
    let two : suc (suc (suc k)) - 2 ≡ suc k = omega arith in
    let three : suc (suc (suc k)) - 3 ≡ k = omega arith in
    four_sets k ∙ regroup (suc (suc (suc k))) (suc (suc k)) (suc k) k ∙ sym (rw (one, two, three))
  where
    regroup : (a b c d : ℕ) → a * (b * (c * d)) ≡ a * b * c * d
    regroup a b c d = omega arith

-- the sets of four below k are as many as the formula says
pub fours-count : (k : ℕ) → sets_of_four k ≡ fours k
unfolding fours
fours-count k = quotient (sets_of_four k) (k * (k - 1) * (k - 2) * (k - 3)) (product k)
  where
    quotient : (x y : ℕ) → 24 * x ≡ y → x ≡ y / 24
    quotient x y h = omega arith

-- the division leaves nothing over
pub fours_exact : (k : ℕ) → 24 * fours k ≡ k * (k - 1) * (k - 2) * (k - 3)
fours_exact k = ap (λ (x : ℕ). 24 * x) (sym (fours-count k)) ∙ product k

-- there is none below four things
pub fours_none : (k : ℕ) → k < 4 → fours k ≡ 0
unfolding fours
fours_none zero l = refl
fours_none (suc zero) l = refl
fours_none (suc (suc zero)) l = refl
fours_none (suc (suc (suc zero))) l = refl
fours_none (suc (suc (suc (suc k)))) l = absurd (omega arith)

-- all sets of four of 256 labels
pub fours_of_256 : fours 256 ≡ 174792640
unfolding fours
fours_of_256 = refl

-- ---- more things have no fewer

sets_mono : (j k : ℕ) → j ≤ k → sets_of_four j ≤ sets_of_four k
unfolding sets_of_four sets4 sum
sets_mono j zero l = let e : j ≡ 0 = omega arith in le_of_eq (ap sets_of_four e)
sets_mono j (suc k) l = elim (dec_le j k) [
  | yes h ↦ omega (arith, sets_mono j k h)
  | no h ↦ (let m = lt_of_not-le h in let e : j ≡ suc k = omega arith in le_of_eq (ap sets_of_four e))
]

pub fours_mono : (j k : ℕ) → j ≤ k → fours j ≤ fours k
fours_mono j k l = omega (arith, sets_mono j k l, fours-count j, fours-count k)
