-- Laws of the kept labels other than one, and of sums over them.
-- Assumes nothing.
use Rattle.std.specs.Prelude.{◌≡◌, Bool, true, ◌&&◌, List, ℕ, zero, suc, ◌+◌, ◌*◌, ◌≤◌, ◌<◌}
use Rattle.std.proofs.Math.Path.{refl}
use Rattle.std.proofs.Common.{sym, ◌∙◌, ap, inl, inr, arith, eq-eqb, ne_eqb}
use Rattle.std.proofs.Math.Bool.{false}
use Rattle.std.proofs.Math.Decide.{dec_lt}
use Rattle.sums.specs.Sum.{sum}
use Rattle.sums.specs.theorems.SumLaws.{sum-add, sum_ext, sum-mul_left, sum-part}
use Rattle.sums.specs.Bits.{bit, is}
use Rattle.sums.specs.theorems.BitLaws.{is_self, is_other_lem, alike, sum_is}
use Rattle.sums.specs.Counts.{count}
use Rattle.sums.specs.SetsOfFour.{sets2, sets3}
use Rattle.marks.specs.Marks.{is_kept, kept_of}
use Rattle.counting.specs.theorems.LabelLaws.{Rising}
use Rattle.counting.specs.Kept.{kept_at, kept}
use Rattle.counting.proofs.theorems.KeptLaws.{Ranked, ranked, ranked_one, kept-rising, sum_kept, sum_before}
use Rattle.counting.specs.Kept.{is_other, others}
use Rattle.counting.specs.theorems.OtherLabels.{after_first, after_tip0, with_tip0}

-- a sum over sets of three ranks is one over sets of three labels that pass
pub sets3-kept : (q : ℕ → Bool) (n : ℕ) (f : ℕ → ℕ → ℕ → ℕ)
    → sets3 (count n q) (λ x y z. f (kept_at q n x) (kept_at q n y) (kept_at q n z))
    ≡ sets3 n (λ x y z. bit (q z) * (bit (q y) * (bit (q x) * f x y z)))
unfolding sets3 sets2
sets3-kept q n f =
    sum_ext (count n q) _ _ (λ z lz.
    sum_ext z _ _ (λ y ly. sum_before q n y (λ x. f x (kept_at q n y) (kept_at q n z)) (omega arith))
    ∙ sum_before q n z (λ y. sum y (λ x. bit (q x) * f x y (kept_at q n z))) lz)
    ∙ sum_kept q n (λ z. sum z (λ y. bit (q y) * sum y (λ x. bit (q x) * f x y z)))
    ∙ sym (simp sum-mul_left)

-- ---- marks with the label x and without it

-- what is kept and is not x, as numbers
pub other_bit : (marks : List ℕ) (x y : ℕ) → bit (is_other marks x y) + bit (is_kept marks y) * is x y ≡ bit (is_kept marks y)
unfolding is_other
other_bit marks x y = elim (alike x y) [
  | inl e ↦ rw (eq-eqb y x (sym e.0), e.1) (omega (arith, gone (is_kept marks y)))
  | inr d ↦ rw (ne_eqb y x (λ q. d.0 (sym q)), d.1) (omega (arith, stays (is_kept marks y)))
]
  where
    gone : (b : Bool) → bit (b && false) ≡ 0
    gone true = unfold bit in refl
    gone false = unfold bit in refl

    stays : (b : Bool) → bit (b && true) ≡ bit b
    stays true = refl
    stays false = refl

pub not_itself : (marks : List ℕ) (x : ℕ) → bit (is_other marks x x) ≡ 0
not_itself marks x = omega (arith, other_bit marks x x, ap (λ (z : ℕ). bit (is_kept marks x) * z) (is_self x))

-- ---- by rank, after the first kept label

module _ (marks : List ℕ) (n : ℕ) (some : 1 ≤ kept_of marks n) where
  abbrev x₀ : ℕ
  x₀ = kept_at (is_kept marks) n 0

  first : Ranked (is_kept marks) n 0 x₀
  first = ranked (is_kept marks) n 0 some

  -- how many kept labels but the first are below y, if it is
  counted : (y : ℕ) → x₀ < y → suc (count y (is_other marks x₀)) ≡ count y (is_kept marks)
  counted y l = omega (
    arith,
    sum-add y (λ z. bit (is_other marks x₀ z)) (λ z. is x₀ z * bit (is_kept marks z)),
    sum_ext y (λ z. bit (is_other marks x₀ z) + is x₀ z * bit (is_kept marks z)) (λ z. bit (is_kept marks z))
        (λ z m. omega (arith, other_bit marks x₀ z)),
    sum_is y x₀ (λ z. bit (is_kept marks z)) l,
    first.bit_kept,
  )

  -- the kept labels but the first are those after it
  pub others-number : (others marks ((kept marks n).at 0) n).number ≡ (after_first (kept marks n)).number
  others-number = omega (arith, counted n first.label)

  pub others_at : (i : ℕ) → i < (others marks ((kept marks n).at 0) n).number
      → (others marks ((kept marks n).at 0) n).at i ≡ (after_first (kept marks n)).at i
  others_at i l =
      let more : suc i < count n (is_kept marks) = omega (arith, l, counted n first.label) in
      let b = ranked (is_kept marks) n (suc i) more in
      let y = kept_at (is_kept marks) n (suc i) in
      let after : x₀ < y = (kept-rising marks n).rises 0 (suc i) (omega arith) more in
      ranked_one (is_other marks x₀) n i (kept_at (is_other marks x₀) n i) y (ranked (is_other marks x₀) n i l) (record {
        label = b.label;
        bit_kept = omega (arith, other_bit marks x₀ y, b.bit_kept, ap (λ (z : ℕ). bit (is_kept marks y) * z) (is_other_lem x₀ y (omega arith)));
        rank = omega (arith, counted y after, b.rank);
      })

-- ---- by rank, after tip 0

module _ (marks : List ℕ) (n : ℕ) where
  abbrev q : ℕ → Bool
  q = is_other marks 0

  pub other_at : (i : ℕ) → i < count n (is_other marks 0) → (1 ≤ kept_at (is_other marks 0) n i) × (kept_at (is_other marks 0) n i < n)
  other_at i l =
      let r = ranked q n i l in
      (positive (kept_at q n i) r.bit_kept, r.label)
    where
      positive : (y : ℕ) → bit (is_other marks 0 y) ≡ 1 → 1 ≤ y
      positive zero e = absurd (omega (arith, e, not_itself marks 0))
      positive (suc y) e = omega arith

  pub others_rise : (x y : ℕ) → x < y → y < count n (is_other marks 0) → kept_at (is_other marks 0) n x < kept_at (is_other marks 0) n y
  others_rise x y l m =
      let a = ranked q n x (omega arith) in
      let b = ranked q n y m in
      elim (dec_lt (kept_at q n x) (kept_at q n y)) [
        | yes o ↦ o
        | no o ↦ absurd (omega (
          arith,
          a.rank,
          b.rank,
          sum-part (kept_at q n y) (kept_at q n x) (λ z. bit (q z)) (omega arith),
        ))
      ]

pub with_tip-rising : (marks : List ℕ) (n : ℕ) → 1 ≤ n → Rising n (with_tip0 marks n)
with_tip-rising marks n few = record { inside = inside; rises = rises }
  where
    inside : (x : ℕ) → x < suc (count n (is_other marks 0)) → after_tip0 (kept_at (is_other marks 0) n) x < n
    inside zero l = unfold after_tip0 in few
    inside (suc i) l = unfold after_tip0 in (other_at marks n i (omega arith)).1

    rises : (x y : ℕ) → x < y → y < suc (count n (is_other marks 0))
        → after_tip0 (kept_at (is_other marks 0) n) x < after_tip0 (kept_at (is_other marks 0) n) y
    rises x zero l m = absurd (omega arith)
    rises zero (suc y) l m = unfold after_tip0 in omega (arith, (other_at marks n y (omega arith)).0)
    rises (suc x) (suc y) l m = unfold after_tip0 in others_rise marks n x y (omega arith) (omega arith)
