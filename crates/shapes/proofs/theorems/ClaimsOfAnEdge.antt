-- How many claims a directed edge is in.
-- Assumes nothing.
use Rattle.std.specs.Prelude.{◌≡◌, refl, ◌||◌, ℕ, suc, ◌+◌, ◌*◌, ◌-◌, ◌/◌, ◌<◌, eqb}
use Rattle.std.proofs.Common.{◌∙◌, inl, inr, arith}
use Rattle.std.proofs.Math.Path.{ap₂}
use Rattle.sums.specs.Sum.{sum}
use Rattle.sums.specs.theorems.SumLaws.{sum_cong}
use Rattle.sums.specs.Bits.{bit, is}
use Rattle.sums.specs.theorems.BitLaws.{ne, bit_or, is_self, is_other_lem, is_sym, alike}
use Rattle.sums.specs.Counts.{count}
use Rattle.sums.specs.theorems.SetLaws.{tuples2_cong}
use Rattle.sums.specs.theorems.Products.{bit_sq, sum-ne}
use Rattle.shapes.specs.theorems.AncestorLaws.{Rooted}
use Rattle.shapes.specs.Directions.{head}
use Rattle.shapes.proofs.theorems.DirectionLaws.{head_even, head_odd, sum_codes}
use Rattle.shapes.specs.Claims.{meet, sum_claims_of, choose2}
use Rattle.shapes.specs.theorems.OrderedClaims.{ordered_weight}
use Rattle.shapes.proofs.theorems.OrderedClaims.{meet-bit, edge_claims_ordered, pairs_choose2}
use Rattle.shapes.specs.theorems.ClaimsOfAnEdge.{degree}

-- the pairs of other codes with its head
claims_choose2 : (up : ℕ → ℕ) (codes e : ℕ) → sum_claims_of up codes e (λ f g. 1) ≡ choose2 (count codes (meet up e))
claims_choose2 up codes e = omega (
  arith,
  edge_claims_ordered up codes e (λ f g. 1) (λ f g. refl),
  tuples2_cong codes weighed,
  pairs_choose2 codes (λ f. bit (meet up e f)) (λ f. bit_sq (meet up e f)),
)
  where
    weighed : (f g : ℕ) → ordered_weight up e f g * 1 ≡ ne f g * (bit (meet up e f) * bit (meet up e g))
    weighed f g = rw (meet-bit up e f, meet-bit up e g) (omega arith)

module _ (up : ℕ → ℕ) (r : Rooted up) where
  -- no edge has a node at both ends
  one_end : (v j : ℕ) → is (suc j) v * is (up (suc j)) v ≡ 0
  one_end v j = elim (alike (suc j) v) [
    | inl e ↦ rw (is_other_lem (up (suc j)) v (omega (arith, r.falls j, e.0))) (omega arith)
    | inr d ↦ rw d.1 (omega arith)
  ]

  two_codes : (v j : ℕ) → is v (up (suc j)) + is v (suc j) ≡ bit (eqb (suc j) v || eqb (up (suc j)) v)
  two_codes v j = omega (
    arith,
    bit_or (eqb (suc j) v) (eqb (up (suc j)) v),
    one_end v j,
    is_sym v (suc j),
    is_sym v (up (suc j)),
  )

  -- each edge at a node has one direction towards it
  degree-codes : (k v : ℕ) → sum (2 * k) (λ c. is v (head up c)) ≡ degree up k v
  unfolding degree
  degree-codes k v = sum_codes k _ ∙ simp (head_even, head_odd) (sum_cong k (two_codes v))

  other_codes : (k e : ℕ) → e < 2 * k → suc (count (2 * k) (meet up e)) ≡ degree up k (head up e)
  other_codes k e l = omega (
    arith,
    degree-codes k (head up e),
    sum_cong (2 * k) (meet-bit up e),
    sum-ne (2 * k) e (λ f. is (head up e) (head up f)) l,
    is_self (head up e),
  )

  -- an edge into a node of degree d is in (d − 1)(d − 2)/2 claims
  pub claims_of_an_edge : (k e : ℕ) → e < 2 * k
      → sum_claims_of up (2 * k) e (λ f g. 1)
      ≡ (degree up k (head up e) - 1) * (degree up k (head up e) - 2) / 2
  claims_of_an_edge k e l = claims_choose2 up (2 * k) e ∙ rw (← other_codes k e l) (pairs (count (2 * k) (meet up e)))
    where
      pairs : (c : ℕ) → choose2 c ≡ (suc c - 1) * (suc c - 2) / 2
      pairs c = unfold choose2 in ap₂ (λ (x y : ℕ). x * y / 2) (omega arith) (omega arith)
