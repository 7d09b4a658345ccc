-- There are k(k − 1)(k − 2)/6 sets of three, for every k.
-- Assumes nothing.
use Rattle.std.specs.Prelude.{◌≡◌, refl, ℕ, zero, suc, ◌*◌, ◌-◌, ◌/◌, ◌≤◌, ◌<◌}
use Rattle.std.proofs.Common.{sym, ◌∙◌, ap, le_of_eq, lt_of_not-le, arith}
use Rattle.std.proofs.Math.Decide.{dec_le}
use Rattle.sums.specs.Sum.{sum}
use Rattle.sums.specs.SetsOfFour.{sets2, sets3}
use Rattle.sums.specs.theorems.FoursLaws.{three_sets}

-- all sets of three of k labels
unfoldable pub threes : ℕ → ℕ
threes k = k * (k - 1) * (k - 2) / 6

-- how many sets of three labels below k there are: x < y < z, each counted once
unfoldable pub sets_of_three : ℕ → ℕ
sets_of_three k = sets3 k (λ x y z. 1)

-- the formula, also where a factor would be below 0
product : (k : ℕ) → 6 * sets_of_three k ≡ k * (k - 1) * (k - 2)
unfolding sets_of_three sets3 sets2 sum
product zero = refl
product (suc zero) = refl
product (suc (suc k)) =
    let one : suc (suc k) - 1 ≡ suc k = omega arith in
    let two : suc (suc k) - 2 ≡ k = omega arith in
    three_sets k ∙ regroup (suc (suc k)) (suc k) k ∙ sym (rw (one, two))
  where
    regroup : (a b c : ℕ) → a * (b * c) ≡ a * b * c
    regroup a b c = omega arith

-- the sets of three below k are as many as the formula says
pub threes-count : (k : ℕ) → sets_of_three k ≡ threes k
unfolding threes
threes-count k = quotient (sets_of_three k) (k * (k - 1) * (k - 2)) (product k)
  where
    quotient : (x y : ℕ) → 6 * x ≡ y → x ≡ y / 6
    quotient x y h = omega arith

-- the division leaves nothing over
pub threes_exact : (k : ℕ) → 6 * threes k ≡ k * (k - 1) * (k - 2)
threes_exact k = ap (λ (x : ℕ). 6 * x) (sym (threes-count k)) ∙ product k

-- there is none below three things
pub threes_none : (k : ℕ) → k < 3 → threes k ≡ 0
unfolding threes
threes_none zero l = refl
threes_none (suc zero) l = refl
threes_none (suc (suc zero)) l = refl
threes_none (suc (suc (suc k))) l = absurd (omega arith)

-- all sets of three of 255 labels
pub threes_of_255 : threes 255 ≡ 2731135
unfolding threes
threes_of_255 = refl

-- more things have no fewer
sets_mono : (j k : ℕ) → j ≤ k → sets_of_three j ≤ sets_of_three k
unfolding sets_of_three sets3 sum
sets_mono j zero l = let e : j ≡ 0 = omega arith in le_of_eq (ap sets_of_three e)
sets_mono j (suc k) l = elim (dec_le j k) [
  | yes h ↦ omega (arith, sets_mono j k h)
  | no h ↦ (let m = lt_of_not-le h in let e : j ≡ suc k = omega arith in le_of_eq (ap sets_of_three e))
]

pub threes_mono : (j k : ℕ) → j ≤ k → threes j ≤ threes k
threes_mono j k l = omega (arith, sets_mono j k l, threes-count j, threes-count k)
