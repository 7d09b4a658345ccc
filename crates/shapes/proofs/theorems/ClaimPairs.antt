-- Sums over pairs of claims, one of each of two trees, are sums over pairs of ordered claims.
-- Assumes nothing.
use Rattle.std.specs.Prelude.{◌≡◌, ℕ, ◌+◌, ◌*◌}
use Rattle.std.proofs.Common.{sym, ◌∙◌, ap, ap₂, arith}
use Rattle.std.proofs.Math.Path.{fun_ext}
use Rattle.shapes.specs.Claims.{sum_claims, choose2, equation1, dcount}
use Rattle.shapes.specs.theorems.OrderedClaims.{sum_ordered}
use Rattle.shapes.proofs.theorems.OrderedClaims.{ordered_cong, ordered_mul, ordered_add}
use Rattle.shapes.proofs.theorems.OrderedClaims.{ordered_swap, claims_ordered}

module _ (up : ℕ → ℕ) (codes : ℕ) (up' : ℕ → ℕ) (codes' : ℕ) where
  -- the sum of H over the pairs of ordered claims
  abbrev pub sum_pairs : (ℕ → ℕ → ℕ → ℕ → ℕ → ℕ → ℕ) → ℕ
  sum_pairs H = sum_ordered up codes (λ e f g. sum_ordered up' codes' (λ e' f' g'. H e f g e' f' g'))

  pairs_cong : {H I : ℕ → ℕ → ℕ → ℕ → ℕ → ℕ → ℕ}
      → ((e f g e' f' g' : ℕ) → H e f g e' f' g' ≡ I e f g e' f' g') → sum_pairs H ≡ sum_pairs I
  pairs_cong h = ordered_cong up codes (λ e f g. ordered_cong up' codes' (h e f g))

  pub pairs_mul : (c : ℕ) (H : ℕ → ℕ → ℕ → ℕ → ℕ → ℕ → ℕ)
      → sum_pairs (λ e f g e' f' g'. c * H e f g e' f' g') ≡ c * sum_pairs H
  pairs_mul c H =
      ordered_cong up codes (λ e f g. ordered_mul up' codes' c (H e f g))
      ∙ ordered_mul up codes c (λ e f g. sum_ordered up' codes' (H e f g))

  pairs_add : (H I : ℕ → ℕ → ℕ → ℕ → ℕ → ℕ → ℕ)
      → sum_pairs (λ e f g e' f' g'. H e f g e' f' g' + I e f g e' f' g') ≡ sum_pairs H + sum_pairs I
  pairs_add H I =
      ordered_cong up codes (λ e f g. ordered_add up' codes' (H e f g) (I e f g))
      ∙ ordered_add up codes (λ e f g. sum_ordered up' codes' (H e f g))
      (λ e f g. sum_ordered up' codes' (I e f g))

  swap-first : (H : ℕ → ℕ → ℕ → ℕ → ℕ → ℕ → ℕ) → sum_pairs (λ e f g. H e g f) ≡ sum_pairs H
  swap-first H = ordered_swap up codes (λ e f g. sum_ordered up' codes' (H e f g))

  swap_second : (H : ℕ → ℕ → ℕ → ℕ → ℕ → ℕ → ℕ)
      → sum_pairs (λ e f g e' f' g'. H e f g e' g' f') ≡ sum_pairs H
  swap_second H = ordered_cong up codes (λ e f g. ordered_swap up' codes' (H e f g))

  -- a pair of claims is met in four orders
  pairs_ordered : (H : ℕ → ℕ → ℕ → ℕ → ℕ → ℕ → ℕ)
      → ((e f g e' f' g' : ℕ) → H e f g e' f' g' ≡ H e g f e' f' g')
      → ((e f g e' f' g' : ℕ) → H e f g e' f' g' ≡ H e f g e' g' f')
      → 4 * sum_claims up codes (λ e f g. sum_claims up' codes' (H e f g)) ≡ sum_pairs H
  pairs_ordered H h i = omega (
    arith,
    claims_ordered up codes inner swapped,
    sym (ordered_mul up codes 2 inner) ∙ ordered_cong up codes doubled,
  )
    where
      inner : ℕ → ℕ → ℕ → ℕ
      inner e f g = sum_claims up' codes' (H e f g)

      swapped : (e f g : ℕ) → inner e f g ≡ inner e g f
      swapped e f g = ap (sum_claims up' codes') (fun_ext (λ e'. fun_ext (λ f'. fun_ext (h e f g e' f'))))

      doubled : (e f g : ℕ) → 2 * inner e f g ≡ sum_ordered up' codes' (H e f g)
      doubled e f g = claims_ordered up' codes' (H e f g) (i e f g)

  -- ---- S2 and S3 of any crossings X

  module _ (X : ℕ → ℕ → ℕ) where
    -- twice S2 is the sum of the first of the two terms of equation (1)
    pub same_ordered :
        2 * sum_claims up codes (λ e f g. sum_claims up' codes' (equation1 X e f g))
        ≡ sum_pairs (λ e f g e' f' g'. choose2 (X e e') * (X f f' * X g g'))
    same_ordered = omega (
      arith,
      pairs_ordered (equation1 X) (λ e f g e' f' g'. omega arith) (λ e f g e' f' g'. omega arith),
      pairs_cong (λ e f g e' f' g'. two-terms (choose2 (X e e')) (X f f' * X g g') (X f g' * X g f')),
      pairs_add term (λ e f g e' f' g'. term e f g e' g' f'),
      swap_second term,
    )
      where
        term : ℕ → ℕ → ℕ → ℕ → ℕ → ℕ → ℕ
        term e f g e' f' g' = choose2 (X e e') * (X f f' * X g g')

        two-terms : (x y z : ℕ) → x * (y + z) ≡ x * y + x * z
        two-terms x y z = omega arith

    -- S3 is the sum of the first of the four terms of dcount
    pub different_ordered :
        sum_claims up codes (λ e f g. sum_claims up' codes' (dcount X e f g))
        ≡ sum_pairs (λ e f g e' f' g'. X e e' * X e g' * (X f f' * X g e'))
    different_ordered = omega (
      arith,
      pairs_ordered (dcount X) (λ e f g e' f' g'. omega arith) (λ e f g e' f' g'. omega arith),
      four-terms,
      swap_second term,
      swap-first second,
      swap-first term,
    )
      where
        term : ℕ → ℕ → ℕ → ℕ → ℕ → ℕ → ℕ
        term e f g e' f' g' = X e e' * X e g' * (X f f' * X g e')

        -- the last two codes of the second claim change places
        second : ℕ → ℕ → ℕ → ℕ → ℕ → ℕ → ℕ
        second e f g e' f' g' = term e f g e' g' f'

        four-terms : sum_pairs (dcount X)
            ≡ sum_pairs term + sum_pairs second
            + (sum_pairs (λ e f g. second e g f) + sum_pairs (λ e f g. term e g f))
        four-terms =
            pairs_cong (λ e f g e' f' g'. regroup (X e e') (X e f') (X e g') (X f e') (X f f') (X f g')
            (X g e') (X g f') (X g g'))
            ∙ pairs_add (λ e f g e' f' g'. term e f g e' f' g' + second e f g e' f' g')
            (λ e f g e' f' g'. second e g f e' f' g' + term e g f e' f' g')
            ∙ ap₂ (λ (x y : ℕ). x + y) (pairs_add term second)
            (pairs_add (λ e f g. second e g f) (λ e f g. term e g f))
          where
            regroup : (a b c p q r x y z : ℕ)
                → a * c * q * x + a * b * r * x + a * b * p * z + a * c * p * y
                ≡ a * c * (q * x) + a * b * (r * x) + (a * b * (z * p) + a * c * (y * p))
            regroup a b c p q r x y z = omega arith
