-- Tests that choose one of two numbers.
-- Assumes nothing.
use Rattle.std.specs.Prelude.{◌≡◌, refl, Bool, true, false, ◌&&◌, ℕ, ◌≤◌, ◌<◌, leb, ltb}
use Rattle.std.proofs.Common.{◌∙◌, ap, arith}
use Rattle.sums.specs.theorems.BitLaws.{T_true, T_false}
use Rattle.sums.specs.theorems.TestLaws.{le_iff, lt_iff}
use Rattle.code_lists.specs.ListedCodes.{if_passed}

pub if_passed_lem : (b : Bool) (x y : ℕ) → b ≡ true → if_passed b x y ≡ x
unfolding if_passed
if_passed_lem b x y e = ap (λ (z : Bool). if_passed z x y) e

pub if_not : (b : Bool) (x y : ℕ) → b ≡ false → if_passed b x y ≡ y
unfolding if_passed
if_not b x y e = ap (λ (z : Bool). if_passed z x y) e

pub both_true : (a b : Bool) → a ≡ true → b ≡ true → a && b ≡ true
both_true a b e f = ap (λ (z : Bool). z && b) e ∙ f

pub first-false : (a b : Bool) → a ≡ false → a && b ≡ false
first-false a b e = ap (λ (z : Bool). z && b) e

pub second_false : (a b : Bool) → b ≡ false → a && b ≡ false
second_false true b e = e
second_false false b e = refl

pub le-true : (m n : ℕ) → m ≤ n → leb m n ≡ true
le-true m n l = T_true (leb m n) ((le_iff m n).1 l)

pub le-false : (m n : ℕ) → n < m → leb m n ≡ false
le-false m n l = T_false (leb m n) (λ t. omega (arith, (le_iff m n).0 t))

pub lt-true : (m n : ℕ) → m < n → ltb m n ≡ true
lt-true m n l = T_true (ltb m n) ((lt_iff m n).1 l)

pub lt-false : (m n : ℕ) → n ≤ m → ltb m n ≡ false
lt-false m n l = T_false (ltb m n) (λ t. omega (arith, (lt_iff m n).0 t))
