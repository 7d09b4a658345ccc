-- Claims, and the claim sums over two trees given by parents (docs/SPECIFICATION.md, 'Claims', 'The claim sums').
-- Assumes nothing.
use Rattle.std.specs.Prelude.{Bool, true, false, ◌&&◌, ℕ, zero, suc, ◌+◌, ◌*◌, ◌-◌, ◌/◌, eqb}
use Rattle.sums.specs.Sum.{sum}
use Rattle.shapes.specs.Directions.{head}

-- the sum over the indices below n that pass the test
unfoldable pub sum_if : ℕ → (ℕ → Bool) → (ℕ → ℕ) → ℕ
sum_if zero q f = 0
sum_if (suc n) q f = elim (q n) [ true ↦ sum_if n q f + f n | false ↦ sum_if n q f ]

-- two different codes point to one node
unfoldable pub meet : (ℕ → ℕ) → ℕ → ℕ → Bool
meet up e f = elim (eqb e f) [ true ↦ false | false ↦ eqb (head up e) (head up f) ]

-- A claim is a directed edge e and two different subtrees T2 and T3, without an order, at the node that e points to,
-- neither of them behind e: three different codes e, f and g with one head and f < g. The sum of F over the claims of e
-- in a tree with that many codes, ..
unfoldable pub sum_claims_of : (ℕ → ℕ) → ℕ → ℕ → (ℕ → ℕ → ℕ) → ℕ
sum_claims_of up codes e F =
    sum_if codes (meet up e) (λ g. sum_if g (λ f. meet up e f && meet up f g) (λ f. F f g))

-- .. and over the claims of the tree
unfoldable pub sum_claims : (ℕ → ℕ) → ℕ → (ℕ → ℕ → ℕ → ℕ) → ℕ
sum_claims up codes F = sum codes (λ e. sum_claims_of up codes e (F e))

-- k(k − 1)/2
unfoldable pub choose2 : ℕ → ℕ
choose2 k = k * (k - 1) / 2

-- what one claim adds to S, from the sizes of the sets of tips behind its codes: '|T1|(|T1| − 1)/2 · |T2| · |T3|'
abbrev pub claim_term : (ℕ → ℕ) → ℕ → ℕ → ℕ → ℕ
claim_term size e f g = choose2 (size e) * size f * size g

-- what a pair of claims adds to S2, from the crossings X of the sets behind their codes: equation (1) of document 001
abbrev pub equation1 : (ℕ → ℕ → ℕ) → ℕ → ℕ → ℕ → ℕ → ℕ → ℕ → ℕ
equation1 X e f g e' f' g' = choose2 (X e e') * (X f f' * X g g' + X f g' * X g f')

-- what it adds to S3: the four-term dcount expression of document 001
abbrev pub dcount : (ℕ → ℕ → ℕ) → ℕ → ℕ → ℕ → ℕ → ℕ → ℕ → ℕ
dcount X e f g e' f' g' =
    X e e' * X e g' * X f f' * X g e'
    + X e e' * X e f' * X f g' * X g e'
    + X e e' * X e f' * X f e' * X g g'
    + X e e' * X e g' * X f e' * X g f'
