-- Two numbers that change places: twice is not at all, and numbers below n stay below n.
-- Assumes nothing.
use Rattle.std.specs.Prelude.{◌≡◌, ◌≢◌, ℕ, ◌<◌}
use Rattle.std.proofs.Math.Path.{refl}
use Rattle.std.proofs.Common.{sym, ◌∙◌, ap, arith}
use Rattle.std.proofs.Math.Decide.{ℕ_discrete}
use borrow.Author.Tests.{eq-eqb, ne_eqb}
use Rattle.sums.specs.Swaps.{swapped}

module _ (x y : ℕ) where
  pub swapped-first : swapped x y x ≡ y
  swapped-first = unfold swapped in rw (eq-eqb x x refl, swapped)

  pub swapped_other : (a : ℕ) → a ≢ x → a ≢ y → swapped x y a ≡ a
  swapped_other a d e = unfold swapped in rw (ne_eqb a x d, ne_eqb a y e, swapped)

  pub swapped_second : swapped x y y ≡ x
  swapped_second = elim (ℕ_discrete y x) [
    | yes e ↦ ap (swapped x y) e ∙ swapped-first ∙ e
    | no d ↦ unfold swapped in rw (ne_eqb y x d, eq-eqb y y refl, swapped)
  ]

  -- what a number is swapped for, in ordinary mathematics
  pub data Swap (a b : ℕ) : Type 0 where
    first : a ≡ x → b ≡ y → Swap a b
    second : a ≡ y → b ≡ x → Swap a b
    neither : a ≢ x → a ≢ y → b ≡ a → Swap a b

  pub swap : (a : ℕ) → Swap a (swapped x y a)
  swap a = elim (ℕ_discrete a x) [
    | yes e ↦ first e (ap (swapped x y) e ∙ swapped-first)
    | no d ↦ elim (ℕ_discrete a y) [
      | yes e ↦ second e (ap (swapped x y) e ∙ swapped_second)
      | no e ↦ neither d e (swapped_other a d e)
    ]
  ]

  pub swapped_twice : (a : ℕ) → swapped x y (swapped x y a) ≡ a
  swapped_twice a = go (swap a)
    where
      go : Swap a (swapped x y a) → swapped x y (swapped x y a) ≡ a
      go (first d e) = ap (swapped x y) e ∙ swapped_second ∙ sym d
      go (second d e) = ap (swapped x y) e ∙ swapped-first ∙ sym d
      go (neither d e f) = ap (swapped x y) f ∙ f

  pub swapped_one : (a b : ℕ) → swapped x y a ≡ swapped x y b → a ≡ b
  swapped_one a b e = sym (swapped_twice a) ∙ ap (swapped x y) e ∙ swapped_twice b

  pub swapped-lt : (a n : ℕ) → x < n → y < n → a < n → swapped x y a < n
  swapped-lt a n lx ly la = go (swap a)
    where
      go : {b : ℕ} → Swap a b → b < n
      go (first d e) = omega arith
      go (second d e) = omega arith
      go (neither d e f) = omega arith

-- which of the two is named first plays no part
pub swapped_either : (x y a : ℕ) → swapped x y a ≡ swapped y x a
swapped_either x y a = go (swap x y a)
  where
    go : Swap x y a (swapped x y a) → swapped x y a ≡ swapped y x a
    go (first d e) = e ∙ sym (ap (swapped y x) d ∙ swapped_second y x)
    go (second d e) = e ∙ sym (ap (swapped y x) d ∙ swapped-first y x)
    go (neither d e f) = f ∙ sym (swapped_other y x a e d)

pub swapped_none : (x a : ℕ) → swapped x x a ≡ a
swapped_none x a = go (swap x x a)
  where
    go : {b : ℕ} → Swap x x a b → b ≡ a
    go (first d e) = omega arith
    go (second d e) = omega arith
    go (neither d e f) = f
