-- Sums over ordered claims: over all triples of different codes into one node.
-- Assumes nothing.
use Rattle.std.specs.Prelude.{◌≡◌, Bool, not, ◌&&◌, eqb}
use Rattle.std.proofs.Math.Path.{refl, sym, ap}
use Rattle.std.proofs.Common.{◌∙◌, inl, inr}
use Rattle.std.proofs.Math.Bool.{true, false}
use Prim.Native.Nat.{ℕ, zero, suc, ◌+◌, ◌*◌, ◌-◌, ◌/◌}
use Rattle.std.proofs.Math.Nat.{mul_left_comm, mul-add}
use native.Mathlib.Omega.{arith}
use Rattle.sums.specs.Sum.{sum}
use Rattle.sums.specs.theorems.SumLaws.{sum_ext, sum_cong, sum-add, sum-mul_left, sum-mul_right, sum-swap}
use Rattle.sums.specs.Bits.{bit, is}
use Rattle.sums.specs.theorems.BitLaws.{ne, is_sym, ne_self, ne_sym, alike, sum_is}
use Rattle.sums.specs.theorems.SetLaws.{tuples2, tuples3, tuples4, twice}
use Rattle.sums.specs.SetsOfFour.{sets2}
use Rattle.sums.specs.theorems.Products.{bit_sq, bit_and, sum-ne}
use Rattle.sums.specs.theorems.Exclusion.{two_apart, three_apart}
use Rattle.shapes.specs.theorems.AncestorLaws.{Rooted}
use Rattle.shapes.specs.Directions.{head, behind}
use Rattle.shapes.specs.theorems.DirectionLaws.{into}
use Rattle.shapes.specs.Claims.{sum_if, meet, sum_claims_of, sum_claims, choose2}
use Rattle.shapes.proofs.theorems.EulerCentre.{head-le}
use Rattle.shapes.specs.theorems.Triples.{triples}
use Rattle.shapes.specs.theorems.OrderedClaims.{ordered_weight, sum_ordered}

module _ (up : ℕ → ℕ) (codes : ℕ) where
  -- ---- equal terms, multiples, sums

  pub ordered_cong : {F G : ℕ → ℕ → ℕ → ℕ} → ((e f g : ℕ) → F e f g ≡ G e f g)
      → sum_ordered up codes F ≡ sum_ordered up codes G
  unfolding sum_ordered
  ordered_cong h = sum_cong codes (λ e. sum_cong codes (λ f. sum_cong codes (λ g.
      ap (λ (x : ℕ). ordered_weight up e f g * x) (h e f g))))

  pub ordered_mul : (c : ℕ) (F : ℕ → ℕ → ℕ → ℕ)
      → sum_ordered up codes (λ e f g. c * F e f g) ≡ c * sum_ordered up codes F
  unfolding sum_ordered
  ordered_mul c F =
      sum_cong codes (λ e. sum_cong codes (λ f. sum_cong codes (λ g.
      mul_left_comm (ordered_weight up e f g) c (F e f g))))
      ∙ simp sum-mul_left

  pub ordered_add : (F G : ℕ → ℕ → ℕ → ℕ)
      → sum_ordered up codes (λ e f g. F e f g + G e f g) ≡ sum_ordered up codes F + sum_ordered up codes G
  unfolding sum_ordered
  ordered_add F G =
      sum_cong codes (λ e. sum_cong codes (λ f. sum_cong codes (λ g.
      mul-add (ordered_weight up e f g) (F e f g) (G e f g))))
      ∙ simp sum-add

  -- the last two codes change places
  pub ordered_swap : (F : ℕ → ℕ → ℕ → ℕ) → sum_ordered up codes (λ e f g. F e g f) ≡ sum_ordered up codes F
  unfolding sum_ordered
  ordered_swap F = sum_cong codes (λ e.
      sum-swap codes codes (λ f g. ordered_weight up e f g * F e g f)
      ∙ sum_cong codes (λ g. sum_cong codes (λ f. rw (ne_sym f g) (omega arith))))

  -- ---- a sum inside comes out

  ordered_sum : (n : ℕ) (F : ℕ → ℕ → ℕ → ℕ → ℕ)
      → sum_ordered up codes (λ e f g. sum n (λ a. F a e f g)) ≡ sum n (λ a. sum_ordered up codes (F a))
  unfolding sum_ordered
  ordered_sum n F =
      sum_cong codes (λ e. sum_cong codes (λ f.
      sum_cong codes (λ g. sym (sum-mul_left n (ordered_weight up e f g) (λ a. F a e f g)))
      ∙ sum-swap codes n (λ g a. ordered_weight up e f g * F a e f g))
      ∙ sum-swap codes n (λ f a. sum codes (λ g. ordered_weight up e f g * F a e f g)))
      ∙ sum-swap codes n (λ e a. sum codes (λ f. sum codes (λ g. ordered_weight up e f g * F a e f g)))

  pub ordered_tuples4 : (n : ℕ) (F : ℕ → ℕ → ℕ → ℕ → ℕ → ℕ → ℕ → ℕ)
      → sum_ordered up codes (λ e f g. tuples4 n (λ a b c d. F a b c d e f g))
      ≡ tuples4 n (λ a b c d. sum_ordered up codes (F a b c d))
  unfolding tuples4 tuples3 tuples2
  ordered_tuples4 n F =
      ordered_sum n (λ a e f g. sum n (λ b. sum n (λ c. sum n (λ d. F a b c d e f g))))
      ∙ sum_cong n (λ a. ordered_sum n (λ b e f g. sum n (λ c. sum n (λ d. F a b c d e f g)))
      ∙ sum_cong n (λ b. ordered_sum n (λ c e f g. sum n (λ d. F a b c d e f g))
      ∙ sum_cong n (λ c. ordered_sum n (λ d e f g. F a b c d e f g))))

-- ---- the triples with four nodes behind them

pub triples_ordered : (up : ℕ → ℕ) → Rooted up → (k a b c d : ℕ)
    → triples up k a b c d
    ≡ sum_ordered up (2 * k) (λ e f g. bit (behind up e a) * bit (behind up e b)
    * (bit (behind up f c) * bit (behind up g d)))
unfolding triples three_apart two_apart sum_ordered
triples_ordered up r k a b c d =
    sum-swap (suc k) (2 * k) (λ v e. into up v a e * at e b * others v e)
    ∙ sum_ext (2 * k) _ _ (λ e l.
    sum_cong (suc k) (λ v. ap (λ (z : ℕ). z * at e a * at e b * others v e) (is_sym v (head up e))
    ∙ group (is (head up e) v) (at e a) (at e b) (others v e))
    ∙ sum_is (suc k) (head up e) (λ v. at e a * at e b * others v e) (omega (arith, head-le up r k e l))
    ∙ sym (sum-mul_left (2 * k) (at e a * at e b) _)
    ∙ sum_cong (2 * k) (λ f. sym (sum-mul_left (2 * k) (at e a * at e b) _)
    ∙ sum_cong (2 * k) (λ g. regroup (at e a * at e b) (ne f g)
    (ne e f) (is (head up e) (head up f)) (at f c) (ne e g) (is (head up e) (head up g)) (at g d))))
  where
    at : ℕ → ℕ → ℕ
    at e x = bit (behind up e x)

    others : ℕ → ℕ → ℕ
    others v e = two_apart (2 * k) e (into up v c) (into up v d)

    group : (x y z w : ℕ) → x * y * z * w ≡ x * (y * z * w)
    group x y z w = omega arith

    regroup : (ab n m i c o j d : ℕ)
        → ab * (n * ((m * (i * c)) * (o * (j * d)))) ≡ n * ((m * i) * (o * j)) * (ab * (c * d))
    regroup ab n m i c o j d = omega arith

-- ---- a sum over claims is half the sum over ordered claims

sum_if-bit : (n : ℕ) (q : ℕ → Bool) (f : ℕ → ℕ) → sum_if n q f ≡ sum n (λ i. bit (q i) * f i)
unfolding sum_if sum
sum_if-bit zero q f = refl
sum_if-bit (suc n) q f = go (q n) ∙ ap (λ (x : ℕ). x + bit (q n) * f n) (sum_if-bit n q f)
  where
    go : (b : Bool)
        → ◌≡◌ {A = ℕ} (elim b as (λ x. ℕ) [ true ↦ sum_if n q f + f n | false ↦ sum_if n q f ])
        (sum_if n q f + bit b * f n)
    go true = unfold bit in omega arith
    go false = unfold bit in omega arith

pub meet-bit : (up : ℕ → ℕ) (e f : ℕ) → bit (meet up e f) ≡ ne e f * is (head up e) (head up f)
unfolding meet
meet-bit up e f = go (eqb e f) (eqb (head up e) (head up f))
  where
    go : (b x : Bool) → bit (elim b as (λ y. Bool) [ true ↦ false | false ↦ x ]) ≡ bit (not b) * bit x
    go true true = unfold bit in refl
    go true false = unfold bit in refl
    go false true = unfold bit in refl
    go false false = unfold bit in refl

-- where two numbers are equal to a first, they are equal
is_third : (a b c : ℕ) → is a b * is a c * is b c ≡ is a b * is a c
is_third a b c = elim (alike a b) [
  | inl e ↦ rw (e.1, ← e.0) (omega (arith, bit_sq (eqb a c)))
  | inr d ↦ rw d.1 (omega arith)
]

module _ (up : ℕ → ℕ) (codes e : ℕ) (F : ℕ → ℕ → ℕ) where
  tested : (f g : ℕ) → bit (meet up e g) * (bit (meet up e f && meet up f g) * F f g) ≡ ordered_weight up e f g * F f g
  tested f g = simp (bit_and, meet-bit) (omega (
    arith,
    ap (λ (x : ℕ). x * (ne e g * ne e f * ne f g * F f g)) (is_third (head up e) (head up f) (head up g)),
  ))

  edge_claims_weighed : sum_claims_of up codes e F ≡ sets2 codes (λ f g. ordered_weight up e f g * F f g)
  unfolding sum_claims_of sets2
  edge_claims_weighed =
      sum_if-bit codes (meet up e) _
      ∙ sum_cong codes (λ g. ap (λ (x : ℕ). bit (meet up e g) * x) (sum_if-bit g _ _)
      ∙ sym (sum-mul_left g _ _)
      ∙ sum_cong g (λ f. tested f g))

  -- of one directed edge
  pub edge_claims_ordered : ((f g : ℕ) → F f g ≡ F g f)
      → 2 * sum_claims_of up codes e F ≡ tuples2 codes (λ f g. ordered_weight up e f g * F f g)
  edge_claims_ordered sym-F =
      ap (λ (x : ℕ). 2 * x) edge_claims_weighed
      ∙ sym (twice codes (λ f g. ordered_weight up e f g * F f g)
      (λ f g. rw (ne_sym f g, sym-F f g) (omega arith))
      (λ f. rw (ne_self f) (omega arith)))

-- of the tree
pub claims_ordered : (up : ℕ → ℕ) (codes : ℕ) (F : ℕ → ℕ → ℕ → ℕ) → ((e f g : ℕ) → F e f g ≡ F e g f)
    → 2 * sum_claims up codes F ≡ sum_ordered up codes F
unfolding sum_claims sum_ordered tuples2
claims_ordered up codes F sym-F =
    sym (sum-mul_left codes 2 _)
    ∙ sum_cong codes (λ e. edge_claims_ordered up codes e (F e) (sym-F e))

-- ---- pairs

-- 0 + .. + (k - 1)
gauss : (k : ℕ) → 2 * sum k (λ i. i) + k ≡ k * k
unfolding sum
gauss zero = refl
gauss (suc k) = omega (arith, gauss k)

pub choose2_square : (k : ℕ) → 2 * choose2 k + k ≡ k * k
unfolding choose2
choose2_square k = ap (λ (x : ℕ). 2 * (x / 2) + k) (even k) ∙ half (sum k (λ i. i)) ∙ gauss k
  where
    even : (k : ℕ) → k * (k - 1) ≡ 2 * sum k (λ i. i)
    even zero = unfold sum in refl
    even (suc k) = rw (less k) (unfold sum in omega (arith, gauss k))
      where
        less : (k : ℕ) → suc k - 1 ≡ k
        less k = omega arith

    half : (s : ℕ) → 2 * (2 * s / 2) + k ≡ 2 * s + k
    half s = omega arith

-- the pairs of different indices, of a function whose values are 0 and 1
pub pairs_choose2 : (n : ℕ) (f : ℕ → ℕ) → ((a : ℕ) → f a * f a ≡ f a)
    → tuples2 n (λ a b. ne a b * (f a * f b)) ≡ 2 * choose2 (sum n f)
unfolding tuples2
pairs_choose2 n f sq = omega (
  arith,
  choose2_square (sum n f),
  sum-add n (λ a. sum n (λ b. ne a b * (f a * f b))) f,
  all,
)
  where
    all : sum n (λ a. sum n (λ b. ne a b * (f a * f b)) + f a) ≡ sum n f * sum n f
    all =
        sum_ext n _ (λ a. f a * sum n f) (λ a l.
        ap (λ (x : ℕ). sum n (λ b. ne a b * (f a * f b)) + x) (sym (sq a))
        ∙ sum-ne n a (λ b. f a * f b) l
        ∙ sum-mul_left n (f a) f)
        ∙ sum-mul_right n (sum n f) f
