-- Four labels that are asked about: 10 and 11 do not depend on their order.
-- Assumes nothing.
use Rattle.std.specs.Prelude.{◌≡◌, Bool, true, false, not, List, [], ◌∷◌, ◌≢◌, ◌↔◌, ℕ, zero, suc, ◌<◌, T}
use Rattle.std.proofs.Math.Path.{refl}
use Rattle.std.proofs.Common.{arith}
use Rattle.std.proofs.Math.Logic.{Ne-symm}
use Rattle.asked_labels.specs.LabelOrder.{too_large, two_equal, asked_order}
use Rattle.asked_labels.specs.theorems.LabelOrderLaws.{AllBelow, Different, below_iff, different_iff}
use Rattle.trees.specs.theorems.TopologyLaws.{Rearranged, as_is, first_two, middle, last_two}

-- the four as they are asked about
abbrev four : ℕ → ℕ → ℕ → ℕ → List ℕ
four a b c d = a ∷ b ∷ c ∷ d ∷ []

same_refusal : (x y : Bool) → (T (not x) → T (not y)) → (T (not y) → T (not x)) → x ≡ y
same_refusal true true f g = refl
same_refusal true false f g = absurd (g tt)
same_refusal false true f g = absurd (f tt)
same_refusal false false f g = refl

-- ---- 10

record Below (n a b c d : ℕ) : Type 0 where
  la : a < n
  lb : b < n
  lc : c < n
  ld : d < n

below_four : (n a b c d : ℕ) → T (not (too_large n (four a b c d))) ↔ Below n a b c d
below_four n a b c d = let i = below_iff n (four a b c d) in (
  λ t. let h = i.0 t in
      record { la = h 0 (omega arith); lb = h 1 (omega arith); lc = h 2 (omega arith); ld = h 3 (omega arith) },
  λ h. i.1 (all h),
)
  where
    all : Below n a b c d → AllBelow n (four a b c d)
    all h zero l = h.la
    all h (suc zero) l = h.lb
    all h (suc (suc zero)) l = h.lc
    all h (suc (suc (suc zero))) l = h.ld
    all h (suc (suc (suc (suc k)))) l = absurd (omega arith)

below_moved : (n a b c d : ℕ) {w x y z : ℕ} → Rearranged a b c d w x y z → Below n a b c d ↔ Below n w x y z
below_moved n a b c d as_is = (λ h. h, λ h. h)
below_moved n a b c d (first_two r) = let s = below_moved n a b c d r in (
  λ h. let k = s.0 h in record { la = k.lb; lb = k.la; lc = k.lc; ld = k.ld },
  λ k. s.1 (record { la = k.lb; lb = k.la; lc = k.lc; ld = k.ld }),
)
below_moved n a b c d (middle r) = let s = below_moved n a b c d r in (
  λ h. let k = s.0 h in record { la = k.la; lb = k.lc; lc = k.lb; ld = k.ld },
  λ k. s.1 (record { la = k.la; lb = k.lc; lc = k.lb; ld = k.ld }),
)
below_moved n a b c d (last_two r) = let s = below_moved n a b c d r in (
  λ h. let k = s.0 h in record { la = k.la; lb = k.lb; lc = k.ld; ld = k.lc },
  λ k. s.1 (record { la = k.la; lb = k.lb; lc = k.ld; ld = k.lc }),
)

-- ---- 11

record Unlike (a b c d : ℕ) : Type 0 where
  ab : a ≢ b
  ac : a ≢ c
  ad : a ≢ d
  bc : b ≢ c
  bd : b ≢ d
  cd : c ≢ d

unlike_four : (a b c d : ℕ) → T (not (two_equal (four a b c d))) ↔ Unlike a b c d
unlike_four a b c d = let i = different_iff (four a b c d) in (
  λ t. let h = i.0 t in
      record {
        ab = h 1 0 (omega arith) (omega arith);
        ac = h 2 0 (omega arith) (omega arith);
        ad = h 3 0 (omega arith) (omega arith);
        bc = h 2 1 (omega arith) (omega arith);
        bd = h 3 1 (omega arith) (omega arith);
        cd = h 3 2 (omega arith) (omega arith);
      },
  λ h. i.1 (all h),
)
  where
    all : Unlike a b c d → Different (four a b c d)
    all h zero j l m = absurd (omega arith)
    all h (suc zero) zero l m = h.ab
    all h (suc zero) (suc j) l m = absurd (omega arith)
    all h (suc (suc zero)) zero l m = h.ac
    all h (suc (suc zero)) (suc zero) l m = h.bc
    all h (suc (suc zero)) (suc (suc j)) l m = absurd (omega arith)
    all h (suc (suc (suc zero))) zero l m = h.ad
    all h (suc (suc (suc zero))) (suc zero) l m = h.bd
    all h (suc (suc (suc zero))) (suc (suc zero)) l m = h.cd
    all h (suc (suc (suc zero))) (suc (suc (suc j))) l m = absurd (omega arith)
    all h (suc (suc (suc (suc i)))) j l m = absurd (omega arith)

unlike_moved : (a b c d : ℕ) {w x y z : ℕ} → Rearranged a b c d w x y z → Unlike a b c d ↔ Unlike w x y z
unlike_moved a b c d as_is = (λ h. h, λ h. h)
unlike_moved a b c d (first_two r) = let s = unlike_moved a b c d r in (
  λ h. let k = s.0 h in search Ne-symm,
  λ k. s.1 (search Ne-symm),
)
unlike_moved a b c d (middle r) = let s = unlike_moved a b c d r in (
  λ h. let k = s.0 h in search Ne-symm,
  λ k. s.1 (search Ne-symm),
)
unlike_moved a b c d (last_two r) = let s = unlike_moved a b c d r in (
  λ h. let k = s.0 h in search Ne-symm,
  λ k. s.1 (search Ne-symm),
)

-- ---- the order

module _ (n a b c d : ℕ) {w x y z : ℕ} (r : Rearranged a b c d w x y z) where
  same_large : too_large n (four w x y z) ≡ too_large n (four a b c d)
  same_large =
      let p = below_four n a b c d in let q = below_four n w x y z in let m = below_moved n a b c d r in
      same_refusal _ _ (λ t. p.1 (m.1 (q.0 t))) (λ t. q.1 (m.0 (p.0 t)))

  same_equal : two_equal (four w x y z) ≡ two_equal (four a b c d)
  same_equal =
      let p = unlike_four a b c d in let q = unlike_four w x y z in let m = unlike_moved a b c d r in
      same_refusal _ _ (λ t. p.1 (m.1 (q.0 t))) (λ t. q.1 (m.0 (p.0 t)))

  pub asked_any_order : asked_order n (w ∷ x ∷ y ∷ z ∷ []) ≡ asked_order n (a ∷ b ∷ c ∷ d ∷ [])
  unfolding asked_order
  asked_any_order = rw (same_large, same_equal) refl
