-- The claim sums of shapes, as sums over the sets of four labels.
-- Assumes nothing.
use Rattle.std.specs.Prelude.{◌≡◌, ℕ, ◌*◌}
use Rattle.std.proofs.Common.{arith}
use Rattle.sums.specs.Sum.{sum}
use Rattle.sums.specs.SetsOfFour.{sets4}
use Rattle.sums.specs.theorems.Pairings.{three_ways, different_ways, pairing_times, eight_times, four_times}
use Rattle.shapes.specs.theorems.Shape.{Shape}
use Rattle.shapes.specs.Claims.{sum_claims, choose2, claim_term, equation1, dcount}
use Rattle.shapes.proofs.theorems.OrderedClaims.{ordered_mul, claims_ordered}
use Rattle.shapes.proofs.theorems.ClaimPairs.{pairs_mul, same_ordered, different_ordered}
use Rattle.shapes.proofs.theorems.LabelSums.{bit_in, quartet_in, quartet_pairing, code_crossing}
use Rattle.shapes.proofs.theorems.LabelSums.{claims_quartets, claims_same, claims_different}

-- S is twice the butterflies
pub claim_sum : {n : ℕ} (t : Shape n)
    → sum_claims t.up (2 * t.edges) (claim_term (λ c. sum n (bit_in t c)))
    ≡ 2 * sets4 n (three_ways (quartet_in t))
claim_sum {n} t = omega (
  arith,
  claims_ordered t.up (2 * t.edges) term (λ e f g. omega arith),
  ordered_mul t.up (2 * t.edges) 2 term,
  claims_quartets t,
  eight_times n (quartet_in t) (quartet_pairing t),
)
  where
    term : ℕ → ℕ → ℕ → ℕ
    term = claim_term (λ c. sum n (bit_in t c))

module _ {n : ℕ} (t u : Shape n) where
  -- S2 is twice the butterflies that both shapes have
  pub same_sum :
      sum_claims t.up (2 * t.edges) (λ e f g.
      sum_claims u.up (2 * u.edges) (equation1 (code_crossing t u) e f g))
      ≡ 2 * sets4 n (three_ways (λ a b c d. quartet_in t a b c d * quartet_in u a b c d))
  same_sum = omega (
    arith,
    same_ordered t.up (2 * t.edges) u.up (2 * u.edges) X,
    pairs_mul t.up (2 * t.edges) u.up (2 * u.edges) 2
        (λ e f g e' f' g'. choose2 (X e e') * (X f f' * X g g')),
    claims_same t u,
    eight_times n (λ a b c d. quartet_in t a b c d * quartet_in u a b c d)
        (pairing_times (quartet_in t) (quartet_in u) (quartet_pairing t) (quartet_pairing u)),
  )
    where
      X : ℕ → ℕ → ℕ
      X = code_crossing t u

  -- S3 is four times the sets of four that are two different butterflies
  pub different_sum :
      sum_claims t.up (2 * t.edges) (λ e f g.
      sum_claims u.up (2 * u.edges) (dcount (code_crossing t u) e f g))
      ≡ 4 * sets4 n (different_ways (quartet_in t) (quartet_in u))
  different_sum = omega (
    arith,
    different_ordered t.up (2 * t.edges) u.up (2 * u.edges) (code_crossing t u),
    claims_different t u,
    four_times (quartet_in t) (quartet_in u) (quartet_pairing t) (quartet_pairing u) n,
  )
