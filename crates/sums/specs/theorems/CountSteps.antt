-- Counts as a loop finds them, one index after another.
-- Assumes nothing.
use Rattle.std.specs.Prelude.{◌≡◌, refl, Bool, true, false, ◌≢◌, ℕ, ◌+◌, ◌≤◌, T}
use Rattle.std.proofs.Common.{sym, ap, subst, ◌∙◌, add-one, arith}
use Rattle.sums.specs.Sum.{sum}
use Rattle.sums.specs.Bits.{bit}
use Rattle.sums.specs.Counts.{count}
use Rattle.sums.specs.Tests.{some}
use Rattle.sums.specs.theorems.SumLaws.{sum-suc}
use Rattle.sums.specs.theorems.BitLaws.{bit-T, bit_no, T_true, T_false}
use Rattle.sums.specs.theorems.TestLaws.{some-iff}
use Rattle.sums.specs.theorems.CountLaws.{count-le, count_none, count-pos}

pub count-start : (q : ℕ → Bool) → 0 ≡ count 0 q
unfolding sum
count-start q = refl

count_more : (k : ℕ) (q : ℕ → Bool) → count (k + 1) q ≡ count k q + bit (q k)
count_more k q = ap (λ (m : ℕ). count m q) (add-one k) ∙ sum-suc k (λ i. bit (q i))

-- the test b of index k is passed, or not
pub count_hit : (k : ℕ) (q : ℕ → Bool) (total : ℕ) (b : Bool) → total ≡ count k q → b ≡ q k → b ≡ true
    → total + 1 ≡ count (k + 1) q
count_hit k q total b h e d = omega (arith, h, count_more k q, bit-T (q k) (subst T e (rw d tt)))

pub count_miss : (k : ℕ) (q : ℕ → Bool) (total : ℕ) (b : Bool) → total ≡ count k q → b ≡ q k → b ≡ false
    → total ≡ count (k + 1) q
count_miss k q total b h e d = omega (arith, h, count_more k q, bit_no (q k) (λ t. subst T (sym e ∙ d) t))

pub count_few : (k : ℕ) (q : ℕ → Bool) (total : ℕ) → total ≡ count k q → total ≤ k
count_few k q total h = omega (arith, h, count-le k q)

-- some index passed exactly if the count is not 0
pub count_found : (k : ℕ) (q : ℕ → Bool) (total : ℕ) → total ≡ count k q → total ≢ 0 → true ≡ some k q
count_found k q total h d = sym (T_true (some k q) ((some-iff k q).1 ((count-pos k q).0 (omega (arith, h, d)))))

pub count-not_found : (k : ℕ) (q : ℕ → Bool) (total : ℕ) → total ≡ count k q → total ≡ 0 → false ≡ some k q
count-not_found k q total h e = sym (T_false (some k q) (λ t.
    let r = (some-iff k q).0 t in (count_none k q).0 (sym h ∙ e) r.0 r.1 r.2))
