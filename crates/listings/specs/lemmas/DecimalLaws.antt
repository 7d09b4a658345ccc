-- How long decimal numbers are, and that `io::decimal` writes them.
-- Assumes nothing.
use Rattle.std.specs.Prelude.{◌≡◌, refl, List, ◌++◌, ℕ, zero, suc, ◌-◌, ◌^◌, ◌/◌, ◌≤◌, ◌<◌}
use Rattle.std.proofs.Common.{◌∙◌, ap, pow-suc, arith, lt-ltb, le-ltb}
use Rattle.std.proofs.Math.Nat.{pow-zero, one-le-pow, pow-le-pow_right}
use Rattle.std.proofs.Math.Decide.{dec_le}
use Rattle.io.specs.Digits.{last_digits, IsDigitCount}
use Rattle.listings.specs.Decimal.{last_digit, decimal_in, decimal_of}

pub few_digits : (k n : ℕ) → n < 10 → decimal_in k n ≡ last_digit n
unfolding decimal_in
few_digits zero n l = refl
few_digits (suc k) n l = rw (lt-ltb n 10 l, decimal_in)

pub more_digits : (k n : ℕ) → 10 ≤ n → decimal_in (suc k) n ≡ decimal_in k (n / 10) ++ last_digit n
unfolding decimal_in
more_digits k n l = rw (le-ltb n 10 l, decimal_in)

tenfold : (j : ℕ) → 10 ≤ 10 ^ suc j
tenfold j = omega (arith, pow-suc 10 j, one-le-pow j 10 (omega arith))

sub-one : (j : ℕ) → suc j - 1 ≡ j
sub-one j = omega arith

fewest_less : (n j : ℕ) → IsDigitCount 10 1 n (suc (suc j)) → IsDigitCount 10 1 (n / 10) (suc j)
fewest_less n j h = (
  omega arith,
  omega (arith, pow-suc 10 (suc j), h.1),
  λ l. rw (sub-one j) (less (rw sub-one at (h.2 (omega arith)))),
)
  where
    less : 10 ^ suc j ≤ n → 10 ^ j ≤ n / 10
    less m = omega (arith, pow-suc 10 j)

decimal_in_lem : (k n r : ℕ) → n ≤ k → IsDigitCount 10 1 n r → decimal_in k n ≡ last_digits 10 r n
decimal_in_lem k n zero l h = absurd (omega (arith, h.0))
decimal_in_lem k n (suc zero) l h = few_digits k n (omega (arith, h.1, pow-suc 10 0, pow-zero 10))
decimal_in_lem zero n (suc (suc j)) l h =
    absurd (omega (arith, tenfold j, rw (sub-one (suc j)) at (h.2 (omega arith))))
decimal_in_lem (suc k) n (suc (suc j)) l h =
    let m = rw (sub-one (suc j)) at (h.2 (omega arith)) in
    more_digits k n (omega (arith, tenfold j, m))
    ∙ ap (λ (x : List ℕ). x ++ last_digit n)
    (decimal_in_lem k (n / 10) (suc j) (omega (arith, tenfold j, m)) (fewest_less n j h))

-- 20 digits hold a number below 2^64
pub fewest_most : (n k : ℕ) → n < 2 ^ 64 → IsDigitCount 10 1 n k → k ≤ 20
fewest_most n k l h = elim (dec_le k 20) [ yes m ↦ m | no d ↦ absurd (many (omega arith)) ]
  where
    many : 20 < k → ⊥
    many m =
        omega (arith, h.2 (omega arith), pow-le-pow_right {n = 10} (omega arith) {i = 20} {j = k - 1} (omega arith))

-- the fewest digits that hold n, as `io::decimal` writes them, are its digits without leading zeros
pub decimal_fewest : (n r : ℕ) → IsDigitCount 10 1 n r → decimal_of n ≡ last_digits 10 r n
unfolding decimal_of
decimal_fewest n r h = decimal_in_lem n n r (omega arith) h
