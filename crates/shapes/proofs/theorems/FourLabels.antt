-- Four different labels below n, in any order.
-- Assumes nothing.
use Rattle.std.specs.Prelude.{◌⊎◌, ◌≢◌, ℕ, ◌<◌}
use Rattle.std.proofs.Common.{inl, inr, arith}
use Rattle.std.proofs.Math.Decide.{dec_lt}
use Rattle.sums.specs.Swaps.{swapped}
use Rattle.sums.specs.theorems.SwapLaws.{swapped_one, swapped-lt}
use Rattle.shapes.specs.theorems.FourLabels.{Four}

-- they stay so where x and y change places
pub swapped_four : (n x y a b c d : ℕ) → x < n → y < n → Four n a b c d
    → Four n (swapped x y a) (swapped x y b) (swapped x y c) (swapped x y d)
swapped_four n x y a b c d lx ly f = record {
  la = swapped-lt x y a n lx ly f.la;
  lb = swapped-lt x y b n lx ly f.lb;
  lc = swapped-lt x y c n lx ly f.lc;
  ld = swapped-lt x y d n lx ly f.ld;
  ab = λ q. f.ab (swapped_one x y a b q);
  ac = λ q. f.ac (swapped_one x y a c q);
  ad = λ q. f.ad (swapped_one x y a d q);
  bc = λ q. f.bc (swapped_one x y b c q);
  bd = λ q. f.bd (swapped_one x y b d q);
  cd = λ q. f.cd (swapped_one x y c d q);
}

less : (a b : ℕ) → a ≢ b → (a < b) ⊎ (b < a)
less a b h = elim (dec_lt a b) [ yes l ↦ inl l | no m ↦ inr (omega arith) ]

-- what holds of the three pairings of rising labels, and depends neither on the order within a pair nor on
-- that of the pairs, holds of four different labels
module _ (n : ℕ) (F : ℕ → ℕ → ℕ → ℕ → Type 0)
    (swap_left : (a b c d : ℕ) → F a b c d → F b a c d)
    (swap_right : (a b c d : ℕ) → F a b c d → F a b d c)
    (turn : (a b c d : ℕ) → F a b c d → F c d a b)
    (one : (w x y z : ℕ) → w < x → x < y → y < z → z < n → F w x y z)
    (two : (w x y z : ℕ) → w < x → x < y → y < z → z < n → F w y x z)
    (three : (w x y z : ℕ) → w < x → x < y → y < z → z < n → F w z x y) where
  -- the smallest first, and the second pair rising
  led : (a b c d : ℕ) → Four n a b c d → a < b → a < c → c < d → F a b c d
  led a b c d h ab ac cd = elim (less b c h.bc) [
    | inl l ↦ one a b c d ab l cd h.ld
    | inr m ↦ elim (less b d h.bd) [
      | inl l ↦ two a c b d ac m l h.ld
      | inr q ↦ three a c d b ac cd q h.lb
    ]
  ]

  -- both pairs rising
  paired : (a b c d : ℕ) → Four n a b c d → a < b → c < d → F a b c d
  paired a b c d h ab cd = elim (less a c h.ac) [
    | inl l ↦ led a b c d h ab l cd
    | inr m ↦ turn c d a b (led c d a b (omega arith) cd m ab)
  ]

  -- the first pair rising
  begun : (a b c d : ℕ) → Four n a b c d → a < b → F a b c d
  begun a b c d h ab = elim (less c d h.cd) [
    | inl l ↦ paired a b c d h ab l
    | inr m ↦ swap_right a b d c (paired a b d c (omega arith) ab m)
  ]

  pub any_order : (a b c d : ℕ) → Four n a b c d → F a b c d
  any_order a b c d h = elim (less a b h.ab) [
    | inl l ↦ begun a b c d h l
    | inr m ↦ swap_left b a c d (begun b a c d (omega arith) m)
  ]
