-- The partner of the smallest label in a butterfly.
-- Assumes nothing.
use Rattle.std.specs.Prelude.{◌≡◌, true, false, ◌≢◌, ℕ, ◌≤◌, ◌<◌, min, max, ltb}
use Rattle.std.proofs.Common.{sym, ◌∙◌, ap₂, arith, lt-ltb, le-ltb}
use Rattle.std.proofs.Math.Nat.{min_comm, max_comm}
use Rattle.std.proofs.Math.Decide.{dec_lt}
use Rattle.trees.specs.Topology.{partner}

-- which pair holds the smallest, and the partner p that it gives
data Told (a b c d p : ℕ) : Type 0 where
  left : min a b < c → min a b < d → p ≡ max a b → Told a b c d p
  right : min c d ≤ a → min c d ≤ b → p ≡ max c d → Told a b c d p

told : (a b c d : ℕ) → Told a b c d (partner a b c d)
unfolding partner
told a b c d = elim (dec_lt (min a b) (min c d)) [
  | yes l ↦ left (omega arith) (omega arith) (rw (lt-ltb (min a b) (min c d) l, partner))
  | no m ↦ right (omega arith) (omega arith) (rw (le-ltb (min a b) (min c d) (omega arith), partner))
]

-- ---- neither the order within a pair nor that of the pairs plays a part

pub partner-swap_left : (a b c d : ℕ) → partner a b c d ≡ partner b a c d
unfolding partner
partner-swap_left a b c d =
    ap₂ (λ (x y : ℕ). elim (ltb x (min c d)) as (λ z. ℕ) [ true ↦ y | false ↦ max c d ])
    (min_comm a b) (max_comm a b)

pub partner-swap_right : (a b c d : ℕ) → partner a b c d ≡ partner a b d c
unfolding partner
partner-swap_right a b c d =
    ap₂ (λ (x y : ℕ). elim (ltb (min a b) x) as (λ z. ℕ) [ true ↦ max a b | false ↦ y ])
    (min_comm c d) (max_comm c d)

mins_apart : (a b c d : ℕ) → a ≢ c → a ≢ d → b ≢ c → b ≢ d → min a b ≢ min c d
mins_apart a b c d ac ad bc bd = omega arith

told_turn : {a b c d p q : ℕ} → min a b ≢ min c d → Told a b c d p → Told c d a b q → p ≡ q
told_turn ne (left x y e) (left z w f) = absurd (omega arith)
told_turn ne (left x y e) (right z w f) = e ∙ sym f
told_turn ne (right x y e) (left z w f) = e ∙ sym f
told_turn ne (right x y e) (right z w f) = absurd (omega arith)

pub partner_turn : (a b c d : ℕ) → a ≢ c → a ≢ d → b ≢ c → b ≢ d → partner a b c d ≡ partner c d a b
partner_turn a b c d ac ad bc bd = told_turn (mins_apart a b c d ac ad bc bd) (told a b c d) (told c d a b)

-- ---- which label it is

-- the partner of the smallest, where the smallest stands first
pub partner_of_smallest : (a b c d : ℕ) → a < b → a < c → a < d → partner a b c d ≡ b
partner_of_smallest a b c d ab ac ad = go (told a b c d)
  where
    go : {p : ℕ} → Told a b c d p → p ≡ b
    go (left x y e) = omega arith
    go (right x y e) = omega arith

-- two pairings name two different partners
pub partner-apart : (a b c d : ℕ) → a ≢ d → b ≢ c → partner a b c d ≢ partner a c b d
partner-apart a b c d ad bc = go (told a b c d) (told a c b d)
  where
    go : {p q : ℕ} → Told a b c d p → Told a c b d q → p ≢ q
    go (left x y e) (left z w f) = omega arith
    go (left x y e) (right z w f) = omega arith
    go (right x y e) (left z w f) = omega arith
    go (right x y e) (right z w f) = omega arith
