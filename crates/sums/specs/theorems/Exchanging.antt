-- A sum over sets of three does not depend on the names of the numbers.
-- Assumes nothing.
use Rattle.std.specs.Prelude.{◌≡◌, refl, ◌≢◌, ℕ, ◌*◌, ◌<◌}
use Rattle.std.proofs.Common.{sym, ◌∙◌, ap, inl, inr}
use native.Mathlib.Omega.{arith}
use Rattle.sums.specs.Sum.{sum}
use Rattle.sums.specs.theorems.SumLaws.{sum_ext, sum-mul_left}
use Rattle.sums.specs.theorems.BitLaws.{ne, ne_self, ne_other, alike}
use Rattle.sums.specs.theorems.Permutations.{sum_permuted}
use Rattle.sums.specs.SetsOfFour.{sets2, sets3}
use Rattle.sums.specs.theorems.SetLaws.{tuples2, tuples3, tuples3_cong, six_ways, every_order, sets3_ext}

-- numbers below n exchanged in pairs
module _ (n : ℕ) (σ : ℕ → ℕ) (inside : (i : ℕ) → i < n → σ i < n) (back : (i : ℕ) → σ (σ i) ≡ i) where
  sum-exchanged : (f : ℕ → ℕ) → sum n (λ i. f (σ i)) ≡ sum n f
  sum-exchanged = sum_permuted n σ inside (λ i j li lj e. sym (back i) ∙ ap σ e ∙ back j)

  pub tuples3-exchanged : (f : ℕ → ℕ → ℕ → ℕ) → tuples3 n (λ a b c. f (σ a) (σ b) (σ c)) ≡ tuples3 n f
  unfolding tuples3 tuples2
  tuples3-exchanged f =
      sum_ext n _ _ (λ a la.
      sum_ext n _ _ (λ b lb. sum-exchanged (λ c. f (σ a) (σ b) c))
      ∙ sum-exchanged (λ b. sum n (λ c. f (σ a) b c)))
      ∙ sum-exchanged (λ a. sum n (λ b. sum n (λ c. f a b c)))

-- what of three different numbers below n does not depend on their order
pub record AnyOrder (n : ℕ) (f : ℕ → ℕ → ℕ → ℕ) : Type 0 where
  pub first_two : (a b c : ℕ) → a < n → b < n → c < n → a ≢ b → a ≢ c → b ≢ c → f b a c ≡ f a b c
  pub last_two : (a b c : ℕ) → a < n → b < n → c < n → a ≢ b → a ≢ c → b ≢ c → f a c b ≡ f a b c

-- 0 where two are equal
unfoldable apart : (ℕ → ℕ → ℕ → ℕ) → ℕ → ℕ → ℕ → ℕ
apart f a b c = ne a b * (ne a c * (ne b c * f a b c))

apart_is : (f : ℕ → ℕ → ℕ → ℕ) (a b c : ℕ) → a ≢ b → a ≢ c → b ≢ c → apart f a b c ≡ f a b c
unfolding apart
apart_is f a b c ab ac bc = rw (ne_other a b ab, ne_other a c ac, ne_other b c bc) (omega arith)

six_times : (k : ℕ) (f : ℕ → ℕ → ℕ → ℕ) → sets3 k (λ a b c. 6 * f a b c) ≡ 6 * sets3 k f
unfolding sets3 sets2
six_times k f = simp sum-mul_left

tuples_of : (n : ℕ) (f : ℕ → ℕ → ℕ → ℕ) → AnyOrder n f → tuples3 n (apart f) ≡ 6 * sets3 n f
tuples_of n f o =
    every_order n (apart f)
    (λ a b. unfold apart in rw (ne_self a) (omega arith))
    (λ a b. unfold apart in rw (ne_self a) (omega arith))
    (λ a b. unfold apart in rw (ne_self b) (omega arith))
    ∙ sets3_ext n _ (λ a b c. 6 * f a b c) (λ a b c ab bc lc.
    six a b c (omega arith) (omega arith) lc (λ q. omega arith) (λ q. omega arith) (λ q. omega arith))
    ∙ six_times n f
  where
    six : (a b c : ℕ) → a < n → b < n → c < n → a ≢ b → a ≢ c → b ≢ c → six_ways (apart f) a b c ≡ 6 * f a b c
    six a b c la lb lc ab ac bc =
        let ba : b ≢ a = λ q. ab (sym q) in
        let ca : c ≢ a = λ q. ac (sym q) in
        let cb : c ≢ b = λ q. bc (sym q) in
        rw (
          apart_is f a b c ab ac bc,
          apart_is f a c b ac ab cb,
          apart_is f b a c ba bc ac,
          apart_is f b c a bc ba ca,
          apart_is f c a b ca cb ab,
          apart_is f c b a cb ca ba,
        )
        (omega (
          arith,
          o.last_two a b c la lb lc ab ac bc,
          o.first_two a b c la lb lc ab ac bc,
          o.first_two a c b la lc lb ac ab cb,
          o.last_two b a c lb la lc ba bc ac,
          o.last_two c a b lc la lb ca cb ab,
        ))

pub sets3-exchanged : (n : ℕ) (σ : ℕ → ℕ) → ((i : ℕ) → i < n → σ i < n) → ((i : ℕ) → σ (σ i) ≡ i)
    → (f : ℕ → ℕ → ℕ → ℕ) → AnyOrder n f → sets3 n (λ a b c. f (σ a) (σ b) (σ c)) ≡ sets3 n f
sets3-exchanged n σ inside back f o =
    let g : AnyOrder n (λ a b c. f (σ a) (σ b) (σ c)) = record {
      first_two = λ a b c la lb lc ab ac bc.
          o.first_two (σ a) (σ b) (σ c) (inside a la) (inside b lb) (inside c lc) (one a b ab) (one a c ac) (one b c bc);
      last_two = λ a b c la lb lc ab ac bc.
          o.last_two (σ a) (σ b) (σ c) (inside a la) (inside b lb) (inside c lc) (one a b ab) (one a c ac) (one b c bc);
    } in
    omega (
      arith,
      tuples_of n f o,
      tuples_of n (λ a b c. f (σ a) (σ b) (σ c)) g,
      tuples3-exchanged n σ inside back (apart f),
      same,
    )
  where
    one : (a b : ℕ) → a ≢ b → σ a ≢ σ b
    one a b d e = d (sym (back a) ∙ ap σ e ∙ back b)

    ne-σ : (a b : ℕ) → ne (σ a) (σ b) ≡ ne a b
    ne-σ a b = elim (alike a b) [
      | inl e ↦ rw e.0 (ne_self (σ b) ∙ sym (ne_self b))
      | inr d ↦ ne_other (σ a) (σ b) (one a b d.0) ∙ sym d.2
    ]

    same : tuples3 n (λ a b c. apart f (σ a) (σ b) (σ c)) ≡ tuples3 n (apart (λ a b c. f (σ a) (σ b) (σ c)))
    same = tuples3_cong n (λ a b c. unfold apart in rw (ne-σ a b, ne-σ a c, ne-σ b c) refl)
