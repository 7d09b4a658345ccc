-- Partners: where every index has at most one on the other side, as many have one on either side.
-- Assumes nothing.
use Rattle.std.specs.Prelude.{◌≡◌, Bool, ◌&&◌, ℕ, zero, suc, ◌≤◌, ◌<◌, T}
use Rattle.std.proofs.Common.{sym, ◌∙◌, subst, inl, inr, eq-or-lt_of_le, le_of_suc-le-suc, arith, T_not}
use Rattle.sums.specs.Sum.{sum}
use Rattle.sums.specs.theorems.SumLaws.{sum_ext, sum_mono, sum-swap}
use Rattle.sums.specs.Bits.{bit}
use Rattle.sums.specs.theorems.BitLaws.{bit-T, bit_no, bit_mono, bit_inj}
use Rattle.sums.specs.theorems.TestLaws.{and-iff, T_dec, same_test, some-iff}
use Rattle.sums.specs.Tests.{some}
use Rattle.sums.specs.Counts.{count}
use Rattle.sums.specs.theorems.CountLaws.{count_none, count_once}

-- ---- one test implies another

pub count_mono : (n : ℕ) (p q : ℕ → Bool) → ((i : ℕ) → i < n → T (p i) → T (q i)) → count n p ≤ count n q
count_mono n p q h = sum_mono n _ _ (λ i l. bit_mono (p i) (q i) (h i l))

-- if both are passed equally often, they are passed together
pub count_same : (n : ℕ) (p q : ℕ → Bool) → ((i : ℕ) → i < n → T (p i) → T (q i))
    → count n p ≡ count n q → (i : ℕ) → i < n → T (q i) → T (p i)
unfolding sum
count_same zero p q h e i l t = absurd (omega arith)
count_same (suc n) p q h e i l t =
    let below : (j : ℕ) → j < n → T (p j) → T (q j) = λ j m. h j (omega arith) in
    let a = count_mono n p q below in
    let b = bit_mono (p n) (q n) (h n (omega arith)) in
    elim (eq-or-lt_of_le (le_of_suc-le-suc l)) [
      | inl d ↦ rw d (subst T (sym (bit_inj (p n) (q n) (omega arith))) (rw d at t))
      | inr m ↦ count_same n p q below (omega arith) i m t
    ]

-- ---- some partner

-- a test taken into `some`
pub some-and : (n : ℕ) (a : Bool) (q : ℕ → Bool) → (a && some n q) ≡ some n (λ j. a && q j)
some-and n a q = same_test _ _
    (λ t. let r = (and-iff a (some n q)).0 t in let s = (some-iff n q).0 r.1 in
    (some-iff n _).1 (s.0, s.1, (and-iff a (q s.0)).1 (r.0, s.2)))
    (λ t. let s = (some-iff n _).0 t in let r = (and-iff a (q s.0)).0 s.2 in
    (and-iff a (some n q)).1 (r.0, (some-iff n q).1 (s.0, s.1, r.1)))

-- where no two pass, a test for some is a count
some-count : (n : ℕ) (q : ℕ → Bool) → ((i j : ℕ) → i < n → j < n → T (q i) → T (q j) → i ≡ j)
    → bit (some n q) ≡ count n q
some-count n q h = elim (T_dec (some n q)) [
  | inl y ↦ (let r = (some-iff n q).0 y in
      bit-T (some n q) y
      ∙ sym ((count_once n q).1 (r.0, r.1, r.2, λ j m t. h j r.0 m r.1 t r.2)))
  | inr z ↦ bit_no (some n q) (T_not (some n q) z)
      ∙ sym ((count_none n q).1 (λ i m t. T_not (some n q) z ((some-iff n q).1 (i, m, t))))
]

-- of k indices on the one side as many have a partner as of l on the other
pub partners : (k l : ℕ) (r : ℕ → ℕ → Bool)
    → ((i j j' : ℕ) → i < k → j < l → j' < l → T (r i j) → T (r i j') → j ≡ j')
    → ((i i' j : ℕ) → i < k → i' < k → j < l → T (r i j) → T (r i' j) → i ≡ i')
    → count k (λ i. some l (r i)) ≡ count l (λ j. some k (λ i. r i j))
partners k l r f g =
    sum_ext k _ _ (λ i li. some-count l (r i) (λ j j' lj lj'. f i j j' li lj lj'))
    ∙ sum-swap k l (λ i j. bit (r i j))
    ∙ sym (sum_ext l _ _ (λ j lj. some-count k (λ i. r i j) (λ i i' li li'. g i i' j li li' lj)))
