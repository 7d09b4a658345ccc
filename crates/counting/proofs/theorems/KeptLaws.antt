-- Kept labels: each rank below their number is that of one kept label, in rising order; a sum over ranks is a sum over kept
-- labels; and where all are kept, a label is its own rank.
-- Assumes nothing.
use Rattle.std.specs.Prelude.{◌≡◌, Bool, true, false, ◌⊎◌, ◌≢◌, List}
use Rattle.std.proofs.Math.Path.{refl, sym, ap, fun_ext}
use Rattle.std.proofs.Common.{◌∙◌, ap₂}
use Rattle.std.proofs.Math.Logic.{inl, inr}
use Prim.Native.Nat.{ℕ, zero, suc, ◌+◌, ◌*◌, ◌-◌, ◌≤◌, ◌<◌}
use Rattle.std.proofs.Math.Decide.{dec_le, dec_lt, ℕ_discrete}
use native.Mathlib.Omega.{arith}
use borrow.Author.Tests.{eq-eqb, ne_eqb}
use Rattle.sums.specs.Sum.{sum}
use Rattle.sums.specs.SetsOfFour.{sets2, sets3, sets4}
use Rattle.sums.specs.theorems.SumLaws.{sum-suc, sum_ext, sum-part, sum_const, sum-mul_left}
use Rattle.sums.specs.Bits.{bit}
use Rattle.sums.specs.Counts.{count}
use Rattle.counting.specs.Labels.{Labels}
use Rattle.counting.specs.theorems.LabelLaws.{Rising}
use Rattle.marks.specs.Marks.{is_kept}
use Rattle.counting.specs.Kept.{kept_at, passing, kept}

known : (b : Bool) → ((b ≡ true) × (bit b ≡ 1)) ⊎ ((b ≡ false) × (bit b ≡ 0))
unfolding bit
known true = inl (refl, refl)
known false = inr (refl, refl)

module _ (q : ℕ → Bool) where
  one_more : (n : ℕ) → count (suc n) q ≡ count n q + bit (q n)
  one_more n = sum-suc n (λ x. bit (q x))

  grows : (n m : ℕ) → m ≤ n → count m q ≤ count n q
  grows n m l = sum-part m n (λ x. bit (q x)) l

  at_struck : (n i : ℕ) → q n ≡ false → kept_at q (suc n) i ≡ kept_at q n i
  unfolding kept_at
  at_struck n i e = rw (e, kept_at)

  at_last : (n i : ℕ) → q n ≡ true → count n q ≡ i → kept_at q (suc n) i ≡ n
  unfolding kept_at
  at_last n i e c = rw (e, eq-eqb (count n q) i c, kept_at)

  at_before : (n i : ℕ) → q n ≡ true → count n q ≢ i → kept_at q (suc n) i ≡ kept_at q n i
  unfolding kept_at
  at_before n i e c = rw (e, ne_eqb (count n q) i c, kept_at)

  -- x is kept, and i kept labels come before it
  pub record Ranked (n i x : ℕ) : Type 0 where
    pub label : x < n
    pub bit_kept : bit (q x) ≡ 1
    pub rank : count x q ≡ i

  more_labels : (n i x : ℕ) → Ranked n i x → Ranked (suc n) i x
  more_labels n i x r = record { label = omega (arith, r.label); bit_kept = r.bit_kept; rank = r.rank }

  pub ranked : (n i : ℕ) → i < count n q → Ranked n i (kept_at q n i)
  ranked zero i l = absurd (unfold sum in omega arith)
  ranked (suc n) i l = elim (known (q n)) [
    | inl k ↦ elim (ℕ_discrete (count n q) i) [
      | yes e ↦ rw (at_last n i k.0 e) (record { label = omega arith; bit_kept = k.1; rank = e })
      | no d ↦ rw (at_before n i k.0 d) (more_labels n i _ (ranked n i (omega (arith, one_more n, k.1))))
    ]
    | inr k ↦ rw (at_struck n i k.0) (more_labels n i _ (ranked n i (omega (arith, one_more n, k.1))))
  ]

  -- one more label changes no earlier rank
  at_more : (n i : ℕ) → i < count n q → kept_at q (suc n) i ≡ kept_at q n i
  at_more n i l = elim (known (q n)) [
    | inl k ↦ at_before n i k.0 (λ e. omega arith)
    | inr k ↦ at_struck n i k.0
  ]

  -- a sum over ranks is one over the kept labels
  -- one label has a rank
  pub ranked_one : (n i x y : ℕ) → Ranked n i x → Ranked n i y → x ≡ y
  ranked_one n i x y a b = elim (dec_lt x y) [
    | yes l ↦ absurd (omega (arith, a.rank, b.rank, a.bit_kept, one_more x, grows y (suc x) l))
    | no f ↦ elim (dec_lt y x) [
      | yes l ↦ absurd (omega (arith, a.rank, b.rank, b.bit_kept, one_more y, grows x (suc y) l))
      | no d ↦ omega arith
    ]
  ]

  -- the rank of a kept label, and the label of that rank
  pub rank_of_lem : (n x : ℕ) → x < n → bit (q x) ≡ 1 → (count x q < count n q) × (kept_at q n (count x q) ≡ x)
  rank_of_lem n x l k =
      let less : count x q < count n q = omega (arith, one_more x, k, grows n (suc x) l) in (
        less,
        ranked_one n (count x q) (kept_at q n (count x q)) x (ranked n (count x q) less)
            (record { label = l; bit_kept = k; rank = refl }),
      )

  pub sum_kept : (n : ℕ) (f : ℕ → ℕ) → sum (count n q) (λ i. f (kept_at q n i)) ≡ sum n (λ x. bit (q x) * f x)
  sum_kept zero f = unfold sum in refl
  sum_kept (suc n) f = elim (known (q n)) [
    | inl k ↦ (
        let c : count (suc n) q ≡ suc (count n q) = omega (arith, one_more n, k.1) in
        ap (λ (m : ℕ). sum m (λ i. f (kept_at q (suc n) i))) c
        ∙ omega (
          arith,
          sum-suc (count n q) (λ i. f (kept_at q (suc n) i)),
          same,
          sum_kept n f,
          ap f (at_last n (count n q) k.0 refl),
          sum-suc n (λ x. bit (q x) * f x),
          ap (λ (z : ℕ). z * f n) k.1,
        ))
    | inr k ↦ (
        let c : count (suc n) q ≡ count n q = omega (arith, one_more n, k.1) in
        ap (λ (m : ℕ). sum m (λ i. f (kept_at q (suc n) i))) c
        ∙ omega (
          arith,
          same,
          sum_kept n f,
          sum-suc n (λ x. bit (q x) * f x),
          ap (λ (z : ℕ). z * f n) k.1,
        ))
  ]
    where
      same : sum (count n q) (λ i. f (kept_at q (suc n) i)) ≡ sum (count n q) (λ i. f (kept_at q n i))
      same = sum_ext (count n q) _ _ (λ i l. ap f (at_more n i l))

  -- labels below m alone have the same ranks
  at_lower : (n m i : ℕ) → m ≤ n → i < count m q → kept_at q n i ≡ kept_at q m i
  at_lower zero m i h l = absurd (omega (arith, l, grows 0 m h, none_below))
    where
      none_below : count 0 q ≡ 0
      none_below = unfold sum in refl
  at_lower (suc n) m i h l = elim (ℕ_discrete m (suc n)) [
    | yes e ↦ ap (λ (k : ℕ). kept_at q k i) (sym e)
    | no d ↦ at_more n i (omega (arith, l, grows n m (omega (arith, h, d)))) ∙ at_lower n m i (omega (arith, h, d)) l
  ]

  -- a sum over the ranks below that of a kept label is one over the kept labels below it
  pub sum_before : (n z : ℕ) (f : ℕ → ℕ) → z < count n q
      → sum z (λ i. f (kept_at q n i)) ≡ sum (kept_at q n z) (λ x. bit (q x) * f x)
  sum_before n z f l =
      let r = ranked n z l in
      ap (λ (c : ℕ). sum c (λ i. f (kept_at q n i))) (sym r.rank)
      ∙ sum_ext (count (kept_at q n z) q) _ _ (λ i m. ap f (at_lower n (kept_at q n z) i (omega (arith, r.label)) m))
      ∙ sum_kept (kept_at q n z) f

  -- a sum over sets of four ranks is one over sets of four kept labels
  pub sets4-kept : (n : ℕ) (f : ℕ → ℕ → ℕ → ℕ → ℕ)
      → sets4 (count n q) (λ w x y z. f (kept_at q n w) (kept_at q n x) (kept_at q n y) (kept_at q n z))
      ≡ sets4 n (λ w x y z. bit (q z) * (bit (q y) * (bit (q x) * (bit (q w) * f w x y z))))
  unfolding sets4 sets3 sets2
  sets4-kept n f =
      sum_ext (count n q) _ _ (λ z lz.
      sum_ext z _ _ (λ y ly.
      sum_ext y _ _ (λ x lx. sum_before n x (λ w. f w (kept_at q n x) (kept_at q n y) (kept_at q n z)) (omega arith))
      ∙ sum_before n y (λ x. sum x (λ w. bit (q w) * f w x (kept_at q n y) (kept_at q n z))) (omega arith))
      ∙ sum_before n z (λ y. sum y (λ x. bit (q x) * sum x (λ w. bit (q w) * f w x y (kept_at q n z)))) lz)
      ∙ sum_kept n (λ z. sum z (λ y. bit (q y) * sum y (λ x. bit (q x) * sum x (λ w. bit (q w) * f w x y z))))
      ∙ sym (simp sum-mul_left)

  pub passing-rising : (n : ℕ) → Rising n (passing q n)
  passing-rising n = record {
    inside = λ x l. (ranked n x l).label;
    rises = rises;
  }
    where
      rises : (x y : ℕ) → x < y → y < count n q → kept_at q n x < kept_at q n y
      rises x y l m =
          let a = ranked n x (omega arith) in
          let b = ranked n y m in
          elim (dec_lt (kept_at q n x) (kept_at q n y)) [
            | yes o ↦ o
            | no o ↦ absurd (omega (arith, a.rank, b.rank, grows (kept_at q n x) (kept_at q n y) (omega arith)))
          ]

  -- ---- however many labels follow that do not pass

  step_past : (n i : ℕ) → q n ≡ false → (count (suc n) q ≡ count n q) × (kept_at q (suc n) i ≡ kept_at q n i)
  unfolding bit
  step_past n i e = (one_more n ∙ rw e (omega arith), at_struck n i e)

  -- none passes from n on
  abbrev pub NoneFrom : ℕ → Type 0
  NoneFrom n = (x : ℕ) → n ≤ x → q x ≡ false

  past : (n : ℕ) → NoneFrom n → (d i : ℕ) → (count (n + d) q ≡ count n q) × (kept_at q (n + d) i ≡ kept_at q n i)
  past n h zero i = let e : n + zero ≡ n = omega arith in rw e (refl, refl)
  past n h (suc d) i =
      let e : n + suc d ≡ suc (n + d) = omega arith in
      let s = step_past (n + d) i (h (n + d) (omega arith)) in
      let r = past n h d i in
      rw e (s.0 ∙ r.0, s.1 ∙ r.1)

  passing_later : (n m : ℕ) → n ≤ m → NoneFrom n → passing q m ≡ passing q n
  passing_later n m l h =
      let e : n + (m - n) ≡ m = omega arith in
      let mk : ℕ → (ℕ → ℕ) → Labels = λ k f. record { number = k; at = f } in
      ap (passing q) (sym e)
      ∙ ap₂ mk (past n h (m - n) 0).0 (fun_ext (λ i. (past n h (m - n) i).1))

  -- where none passes from n on, and none from m on, the labels are the same
  pub same_passing : (n m : ℕ) → NoneFrom n → NoneFrom m → passing q n ≡ passing q m
  same_passing n m h k = elim (dec_le n m) [
    | yes l ↦ sym (passing_later n m l h)
    | no d ↦ passing_later m n (omega arith) k
  ]

-- ---- of marks

module _ (marks : List ℕ) (n : ℕ) where
  pub kept-rising : Rising n (kept marks n)
  kept-rising = passing-rising (is_kept marks) n

  module _ (every : (x : ℕ) → x < n → bit (is_kept marks x) ≡ 1) where
    all_before : (x : ℕ) → x ≤ n → count x (is_kept marks) ≡ x
    all_before x l = sum_ext x _ (λ y. 1) (λ y m. every y (omega arith)) ∙ ones x
      where
        ones : (k : ℕ) → sum k (λ y. 1) ≡ k
        ones k = omega (arith, sum_const k 1)

    -- where all marks are 1, there are n labels, each its own rank
    pub all_kept-number : (kept marks n).number ≡ n
    all_kept-number = all_before n (omega arith)

    pub all_kept_at : (x : ℕ) → x < n → (kept marks n).at x ≡ x
    all_kept_at x l =
        let r = ranked (is_kept marks) n x (omega (arith, all_kept-number)) in
        sym (all_before (kept_at (is_kept marks) n x) (omega (arith, r.label))) ∙ r.rank
