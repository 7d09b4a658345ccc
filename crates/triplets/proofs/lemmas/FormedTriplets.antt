-- The five counts, as the code forms them from its sums.
-- Assumes nothing.
use Rattle.std.specs.Prelude.{◌≡◌, refl, ℕ, ◌+◌, ◌*◌, ◌-◌, ◌/◌, ◌≤◌, ◌<◌}
use Rattle.std.proofs.Common.{sym, ap₂, arith}
use Rattle.sums.specs.theorems.Products.{product_le}
use Rattle.sums.specs.theorems.ThreesLaws.{threes, threes_none}
use Rattle.triplets.specs.lemmas.FormedTriplets.{formed_triplets}

-- what is left for D once A, B and C are taken off
pub rest_fits : (all n a b c d : ℕ) → all ≡ threes (n - 1) → a + b + c + d ≤ threes (n - 1) → d ≤ all - a - b - c
rest_fits all n a b c d e l = omega arith

pub table_formed : (n first second alike apart all : ℕ) → all ≡ threes (n - 1) → record {
  refusal = 0;
  a = alike / 2;
  b = apart;
  c = first / 2 - alike / 2 - apart;
  d = second / 2 - alike / 2 - apart;
  e = all - alike / 2 - apart - (first / 2 - alike / 2 - apart) - (second / 2 - alike / 2 - apart);
  distance = apart + (first / 2 - alike / 2 - apart) + (second / 2 - alike / 2 - apart);
}
    ≡ formed_triplets n first second alike apart
unfolding formed_triplets
table_formed n first second alike apart all e = rw e refl

-- the five counts, from what the sums count
pub formed_is : (n first second alike apart a b c d e : ℕ) → first ≡ 2 * (a + b + c) → second ≡ 2 * (a + b + d)
    → alike ≡ 2 * a → apart ≡ b → a + b + c + d + e ≡ threes (n - 1)
    → formed_triplets n first second alike apart
    ≡ record { refusal = 0; a = a; b = b; c = c; d = d; e = e; distance = b + c + d }
unfolding formed_triplets
formed_is n first second alike apart a b c d e hf hs ha hb all =
    rw (half alike a ha, hb, rest first a b c hf, rest second a b d hs, left (threes (n - 1)) a b c d e all) refl
  where
    half : (x a : ℕ) → x ≡ 2 * a → x / 2 ≡ a
    half x a h = omega arith

    rest : (x a b c : ℕ) → x ≡ 2 * (a + b + c) → x / 2 - a - b ≡ c
    rest x a b c h = omega arith

    left : (x a b c d e : ℕ) → a + b + c + d + e ≡ x → x - a - b - c - d ≡ e
    left x a b c d e h = omega arith

-- ---- how many sets of three there are, as the code computes it

pub few_tips : (n : ℕ) → n < 4 → 0 ≡ threes (n - 1)
few_tips n l = sym (threes_none (n - 1) (omega arith))

pub products_low : (n : ℕ) → n ≤ 256 → ((n - 1) * (n - 2) ≤ 65536) × ((n - 1) * (n - 2) * (n - 3) ≤ 16777216)
products_low n l =
    let a : (n - 1) * (n - 2) ≤ 65536 = omega (arith, product_le 256 256 (n - 1) (n - 2) (omega arith) (omega arith)) in
    (a, omega (arith, product_le 65536 256 ((n - 1) * (n - 2)) (n - 3) a (omega arith)))

pub many_tips : (n : ℕ) → (n - 1) * (n - 2) * (n - 3) / 6 ≡ threes (n - 1)
unfolding threes
many_tips n = ap₂ (λ (x y : ℕ). (n - 1) * x * y / 6) (less n) (less-still n)
  where
    less : (n : ℕ) → n - 2 ≡ n - 1 - 1
    less n = omega arith

    less-still : (n : ℕ) → n - 3 ≡ n - 1 - 2
    less-still n = omega arith
