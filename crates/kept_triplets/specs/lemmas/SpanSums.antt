-- The sum over a span is a difference of two sums from 0 on.
-- Assumes nothing.
use Rattle.std.specs.Prelude.{◌≡◌, refl, ℕ, zero, suc, ◌+◌, ◌*◌, ◌-◌, ◌≤◌, ◌<◌}
use native.Mathlib.Omega.{arith}
use Rattle.sums.specs.Sum.{sum}
use Rattle.sums.specs.theorems.SumLaws.{sum-suc, sum_none}
use Rattle.sums.specs.Bits.{bit}
use Rattle.sums.specs.theorems.BitLaws.{bit-T, bit_no}
use Rattle.walks.specs.theorems.SpanLaws.{in_span, in_span-iff}

module _ (f : ℕ → ℕ) (b e : ℕ) (be : b ≤ e) where
  spanned : ℕ → ℕ
  spanned k = bit (in_span k b e) * f k

  in_one : (k : ℕ) → b ≤ k → k < e → spanned k ≡ f k
  unfolding spanned
  in_one k l m = rw (bit-T (in_span k b e) ((in_span-iff k b e).1 (l, m))) (omega arith)

  out_before : (k : ℕ) → k < b → spanned k ≡ 0
  unfolding spanned
  out_before k l = rw (bit_no (in_span k b e) (λ t. absurd (omega (arith, (in_span-iff k b e).0 t)))) (omega arith)

  out_after : (k : ℕ) → e ≤ k → spanned k ≡ 0
  unfolding spanned
  out_after k l = rw (bit_no (in_span k b e) (λ t. absurd (omega (arith, (in_span-iff k b e).0 t)))) (omega arith)

  to_end : (d : ℕ) → b + d ≤ e → sum (b + d) spanned + sum b f ≡ sum (b + d) f
  to_end zero l = let q : b + 0 ≡ b = omega arith in rw q (omega (arith, sum_none b spanned out_before))
  to_end (suc d) l =
      let q : b + suc d ≡ suc (b + d) = omega arith in
      rw q (omega (
        arith,
        sum-suc (b + d) spanned,
        sum-suc (b + d) f,
        in_one (b + d) (omega arith) (omega arith),
        to_end d (omega arith),
      ))

  past_end : (d : ℕ) → sum (e + d) spanned ≡ sum e spanned
  past_end zero = let q : e + 0 ≡ e = omega arith in rw q refl
  past_end (suc d) =
      let q : e + suc d ≡ suc (e + d) = omega arith in
      rw q (omega (arith, sum-suc (e + d) spanned, out_after (e + d) (omega arith), past_end d))

  pub span_sum : (n : ℕ) → e ≤ n → sum e f - sum b f ≡ sum n (λ k. bit (in_span k b e) * f k)
  unfolding spanned
  span_sum n l =
      let p : b + (e - b) ≡ e = omega arith in
      let q : e + (n - e) ≡ n = omega arith in
      omega (
        arith,
        rw p at (to_end (e - b) (omega arith)),
        rw q at (past_end (n - e)),
      )
