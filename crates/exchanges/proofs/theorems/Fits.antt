-- No difference in the cost of a node goes below 0: two directed edges into one node have different labels behind them.
-- Assumes nothing.
use Rattle.std.specs.Prelude.{◌≡◌, ◌≢◌, ℕ, ◌+◌, ◌*◌, ◌≤◌, ◌<◌}
use Rattle.std.proofs.Common.{inl, inr}
use native.Mathlib.Omega.{arith}
use Rattle.sums.specs.theorems.SumLaws.{sum-add, sum_mono, sum_const, sum_two}
use Rattle.sums.specs.Bits.{bit, is}
use Rattle.sums.specs.theorems.BitLaws.{bit_le, bit_cases, is_self}
use Rattle.shapes.specs.Directions.{head}
use Rattle.shapes.proofs.theorems.DirectionLaws.{one_code}
use Rattle.shapes.specs.theorems.Shape.{Shape}
use Rattle.shapes.proofs.theorems.Shape.{behind_in}
use Rattle.shapes.proofs.theorems.Counting.{size_in}
use Rattle.exchanges.specs.theorems.Turns.{squares_into}

module _ {n : ℕ} (t : Shape n) (v e f : ℕ) (lv : v ≤ t.edges) (le : e < 2 * t.edges) (lf : f < 2 * t.edges)
    (he : head t.up e ≡ v) (hf : head t.up f ≡ v) (ef : e ≢ f) where
  pub sizes_fit : size_in t e + size_in t f ≤ n
  sizes_fit = omega (
    arith,
    sum-add n (λ a. bit (behind_in t e a)) (λ a. bit (behind_in t f a)),
    sum_mono n (λ a. bit (behind_in t e a) + bit (behind_in t f a)) (λ a. 1) each,
    sum_const n 1,
  )
    where
      each : (a : ℕ) → a < n → bit (behind_in t e a) + bit (behind_in t f a) ≤ 1
      each a la = elim (bit_cases (behind_in t e a)) [
        | inl z ↦ omega (arith, bit_le (behind_in t f a))
        | inr o ↦ elim (bit_cases (behind_in t f a)) [
          | inl z ↦ omega arith
          | inr q ↦ absurd (ef (one_code t.up t.tree t.edges v (t.node a) e f lv (t.node_le a la) le lf
              he hf o q))
        ]
      ]

  pub squares_fit : size_in t e * size_in t e + size_in t f * size_in t f ≤ squares_into t v
  unfolding squares_into
  squares_fit = omega (
    arith,
    sum_two (2 * t.edges) (λ g. is v (head t.up g) * (size_in t g * size_in t g)) e f le lf ef,
    at e he,
    at f hf,
  )
    where
      at : (g : ℕ) → head t.up g ≡ v
          → is v (head t.up g) * (size_in t g * size_in t g) ≡ size_in t g * size_in t g
      at g h = rw (h, is_self v) (omega arith)
