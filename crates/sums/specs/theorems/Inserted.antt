-- Sums over sets that hold one number v are sums over sets of the others.
-- Assumes nothing.
use Rattle.std.specs.Prelude.{◌≡◌, refl, ℕ, zero, suc, ◌+◌, ◌*◌, ◌<◌}
use Rattle.std.proofs.Common.{sym, ◌∙◌, ap, arith}
use Rattle.std.proofs.Math.Decide.{ℕ_discrete}
use Rattle.sums.specs.Sum.{sum}
use Rattle.sums.specs.theorems.SumLaws.{sum-suc, sum_ext, sum_none}
use Rattle.sums.specs.Bits.{is}
use Rattle.sums.specs.theorems.BitLaws.{is_self, is_other_lem, sum_is}
use Rattle.sums.specs.SetsOfFour.{sets2, sets3, sets4}
use Rattle.sums.specs.theorems.SetLaws.{sets3_ext, sets4_ext, sets4_none, sets4-add}

pub sets2_ext : (n : ℕ) (f g : ℕ → ℕ → ℕ) → ((x y : ℕ) → x < y → y < n → f x y ≡ g x y) → sets2 n f ≡ sets2 n g
unfolding sets2
sets2_ext n f g h = sum_ext n _ _ (λ y ly. sum_ext y _ _ (λ x lx. h x y lx ly))

pub sets2_none : (n : ℕ) (f : ℕ → ℕ → ℕ) → ((x y : ℕ) → x < y → y < n → f x y ≡ 0) → sets2 n f ≡ 0
unfolding sets2
sets2_none n f h = sum_none n _ (λ y ly. sum_none y _ (λ x lx. h x y lx ly))

sets3_none : (n : ℕ) (f : ℕ → ℕ → ℕ → ℕ) → ((x y z : ℕ) → x < y → y < z → z < n → f x y z ≡ 0) → sets3 n f ≡ 0
unfolding sets3
sets3_none n f h = sum_none n _ (λ z lz. sets2_none z _ (λ x y lx ly. h x y z lx ly lz))

-- the last number, and the others
pub sets2_last : (n : ℕ) (f : ℕ → ℕ → ℕ) → sets2 (suc n) f ≡ sets2 n f + sum n (λ x. f x n)
unfolding sets2 sum
sets2_last n f = refl

pub sets3_last : (n : ℕ) (f : ℕ → ℕ → ℕ → ℕ) → sets3 (suc n) f ≡ sets3 n f + sets2 n (λ x y. f x y n)
unfolding sets3 sum
sets3_last n f = refl

pub sets4_last : (n : ℕ) (f : ℕ → ℕ → ℕ → ℕ → ℕ) → sets4 (suc n) f ≡ sets4 n f + sets3 n (λ x y z. f x y z n)
unfolding sets4 sum
sets4_last n f = refl

module _ (v : ℕ) where
  -- v is none of the numbers below it
  low : (x : ℕ) → x < v → is v x ≡ 0
  low x l = is_other_lem v x (λ e. omega arith)

  pub insert2 : (n : ℕ) (g : ℕ → ℕ) → v < n → g v ≡ 0
      → sets2 n (λ x y. is v x * g y + is v y * g x) ≡ sum n g
  insert2 zero g l z = absurd (omega arith)
  insert2 (suc n) g l z = sets2_last n _ ∙ elim (ℕ_discrete v n) [
    | yes e ↦ omega (
      arith,
      sum-suc n g,
      sets2_none n (λ x y. is v x * g y + is v y * g x) (λ x y lx ly.
          rw (low x (omega (arith, e)), low y (omega (arith, e))) (omega arith)),
      sum_ext n (λ x. is v x * g n + is v n * g x) g (λ x lx.
          rw (low x (omega (arith, e)), ap (is v) (sym e), is_self v) (omega arith)),
      ap g (sym e) ∙ z,
    )
    | no d ↦ omega (
      arith,
      sum-suc n g,
      insert2 n g (omega (arith, d)) z,
      sum_ext n (λ x. is v x * g n + is v n * g x) (λ x. is v x * g n) (λ x lx.
          rw (is_other_lem v n d) (omega arith)),
      sum_is n v (λ x. g n) (omega (arith, d)),
    )
  ]

  pub insert3 : (n : ℕ) (g : ℕ → ℕ → ℕ) → v < n → ((x : ℕ) → g v x ≡ 0) → ((x : ℕ) → g x v ≡ 0)
      → sets3 n (λ x y z. is v x * g y z + is v y * g x z + is v z * g x y) ≡ sets2 n g
  insert3 zero g l p q = absurd (omega arith)
  insert3 (suc n) g l p q = sets3_last n _ ∙ elim (ℕ_discrete v n) [
    | yes e ↦ omega (
      arith,
      sets3_none n (λ x y z. is v x * g y z + is v y * g x z + is v z * g x y) (λ x y z lx ly lz.
          rw (low x (omega (arith, e)), low y (omega (arith, e)), low z (omega (arith, e))) (omega arith)),
      sets2_ext n (λ x y. is v x * g y n + is v y * g x n + is v n * g x y) g (λ x y lx ly.
          rw (low x (omega (arith, e)), low y (omega (arith, e)), ap (is v) (sym e), is_self v) (omega arith)),
      sets2_last n g,
      sum_none n (λ x. g x n) (λ x lx. ap (g x) (sym e) ∙ q x),
    )
    | no d ↦ omega (
      arith,
      insert3 n g (omega (arith, d)) p q,
      sets2_ext n (λ x y. is v x * g y n + is v y * g x n + is v n * g x y) (λ x y. is v x * g y n + is v y * g x n) (λ x y lx ly.
          rw (is_other_lem v n d) (omega arith)),
      insert2 n (λ x. g x n) (omega (arith, d)) (p n),
      sets2_last n g,
    )
  ]

  pub insert4 : (n : ℕ) (g : ℕ → ℕ → ℕ → ℕ) → v < n
      → ((x y : ℕ) → g v x y ≡ 0) → ((x y : ℕ) → g x v y ≡ 0) → ((x y : ℕ) → g x y v ≡ 0)
      → sets4 n (λ w x y z. is v w * g x y z + is v x * g w y z + is v y * g w x z + is v z * g w x y) ≡ sets3 n g
  insert4 zero g l p q r = absurd (omega arith)
  insert4 (suc n) g l p q r = sets4_last n _ ∙ elim (ℕ_discrete v n) [
    | yes e ↦ omega (
      arith,
      (sets4_none n (λ w x y z. is v w * g x y z + is v x * g w y z + is v y * g w x z + is v z * g w x y)).1
          (λ w x y z lw lx ly lz.
          rw (low w (omega (arith, e)), low x (omega (arith, e)), low y (omega (arith, e)), low z (omega (arith, e)))
          (omega arith)),
      sets3_ext n (λ w x y. is v w * g x y n + is v x * g w y n + is v y * g w x n + is v n * g w x y) g (λ w x y lw lx ly.
          rw (low w (omega (arith, e)), low x (omega (arith, e)), low y (omega (arith, e)), ap (is v) (sym e), is_self v)
          (omega arith)),
      sets3_last n g,
      sets2_none n (λ x y. g x y n) (λ x y lx ly. ap (g x y) (sym e) ∙ r x y),
    )
    | no d ↦ omega (
      arith,
      insert4 n g (omega (arith, d)) p q r,
      sets3_ext n (λ w x y. is v w * g x y n + is v x * g w y n + is v y * g w x n + is v n * g w x y)
          (λ w x y. is v w * g x y n + is v x * g w y n + is v y * g w x n) (λ w x y lw lx ly.
          rw (is_other_lem v n d) (omega arith)),
      insert3 n (λ x y. g x y n) (omega (arith, d)) (λ x. p x n) (λ x. q x n),
      sets3_last n g,
    )
  ]

-- ---- one number more

-- Q counts what P counts, and v; P does not count v
module _ (v n : ℕ) (lv : v < n) (P Q : ℕ → ℕ) (more : (y : ℕ) → Q y ≡ P y + is v y) (none : P v ≡ 0)
    (f : ℕ → ℕ → ℕ → ℕ → ℕ)
    (second : (w y z : ℕ) → w < v → v < y → y < z → z < n → f w v y z ≡ f v w y z)
    (third : (w x z : ℕ) → w < x → x < v → v < z → z < n → f w x v z ≡ f v w x z)
    (fourth : (w x y : ℕ) → w < x → x < y → y < v → f w x y v ≡ f v w x y) where
  abbrev G : ℕ → ℕ → ℕ → ℕ
  G a b c = P c * (P b * (P a * f v a b c))

  zero_times : (x y : ℕ) → x ≡ 0 → x * y ≡ 0
  zero_times x y e = rw e (omega arith)

  each : (w x y z : ℕ) → w < x → x < y → y < z → z < n
      → Q z * (Q y * (Q x * (Q w * f w x y z)))
      ≡ P z * (P y * (P x * (P w * f w x y z))) + (is v w * G x y z + is v x * G w y z + is v y * G w x z + is v z * G w x y)
  each w x y z wx xy yz lz = elim (ℕ_discrete w v) [
    | yes e ↦ rw (
      more w,
      more x,
      more y,
      more z,
      e,
      none,
      is_self v,
      is_other_lem v x (λ q. omega arith),
      is_other_lem v y (λ q. omega arith),
      is_other_lem v z (λ q. omega arith),
    ) (omega arith)
    | no a ↦ elim (ℕ_discrete x v) [
      | yes e ↦ rw (
        more w,
        more x,
        more y,
        more z,
        e,
        none,
        is_self v,
        is_other_lem v w (λ q. omega arith),
        is_other_lem v y (λ q. omega arith),
        is_other_lem v z (λ q. omega arith),
        second w y z (omega arith) (omega arith) yz lz,
      ) (omega arith)
      | no b ↦ elim (ℕ_discrete y v) [
        | yes e ↦ rw (
          more w,
          more x,
          more y,
          more z,
          e,
          none,
          is_self v,
          is_other_lem v w (λ q. omega arith),
          is_other_lem v x (λ q. omega arith),
          is_other_lem v z (λ q. omega arith),
          third w x z wx (omega arith) (omega arith) lz,
        ) (omega arith)
        | no c ↦ elim (ℕ_discrete z v) [
          | yes e ↦ rw (
            more w,
            more x,
            more y,
            more z,
            e,
            none,
            is_self v,
            is_other_lem v w (λ q. omega arith),
            is_other_lem v x (λ q. omega arith),
            is_other_lem v y (λ q. omega arith),
            fourth w x y wx xy (omega arith),
          ) (omega arith)
          | no d ↦ rw (
            more w,
            more x,
            more y,
            more z,
            is_other_lem v w (λ q. a (sym q)),
            is_other_lem v x (λ q. b (sym q)),
            is_other_lem v y (λ q. c (sym q)),
            is_other_lem v z (λ q. d (sym q)),
          )
              (omega arith)
        ]
      ]
    ]
  ]

  pub one-number_more :
      sets4 n (λ w x y z. Q z * (Q y * (Q x * (Q w * f w x y z))))
      ≡ sets4 n (λ w x y z. P z * (P y * (P x * (P w * f w x y z))))
      + sets3 n (λ a b c. P c * (P b * (P a * f v a b c)))
  one-number_more =
      sets4_ext n _ _ each
      ∙ sets4-add n (λ w x y z. P z * (P y * (P x * (P w * f w x y z))))
      (λ w x y z. is v w * G x y z + is v x * G w y z + is v y * G w x z + is v z * G w x y)
      ∙ ap (λ (s : ℕ). sets4 n (λ w x y z. P z * (P y * (P x * (P w * f w x y z)))) + s)
      (insert4 v n G lv
      (λ x y. rw none (omega arith)) (λ x y. rw none (omega arith)) (λ x y. rw none (omega arith)))
