-- Sums over three different indices, by inclusion and exclusion.
-- Assumes nothing.
use Rattle.std.specs.Prelude.{◌≡◌, ◌≢◌, ℕ, ◌+◌, ◌*◌, ◌≤◌, ◌<◌}
use Rattle.std.proofs.Common.{sym, ◌∙◌, ap, arith}
use Rattle.sums.specs.Sum.{sum}
use Rattle.sums.specs.theorems.SumLaws.{sum_ext, sum_cong, sum-add, sum-mul_left, sum-mul_right, sum-pos}
use Rattle.sums.specs.theorems.BitLaws.{ne}
use Rattle.sums.specs.theorems.Products.{ne_once, sum-ne, times_pos, ne_times_pos}

-- the sum of q f * r g over different indices f and g below n, both other than e
unfoldable pub two_apart : ℕ → ℕ → (ℕ → ℕ) → (ℕ → ℕ) → ℕ
two_apart n e q r = sum n (λ f. sum n (λ g. ne f g * ((ne e f * q f) * (ne e g * r g))))

-- the sum of p e * (q f * r g) over three different indices below n
unfoldable pub three_apart : ℕ → (ℕ → ℕ) → (ℕ → ℕ) → (ℕ → ℕ) → ℕ
three_apart n p q r = sum n (λ e. p e * two_apart n e q r)

-- ---- what a sum that is not 0 has

pub record TwoApart (n e : ℕ) (q r : ℕ → ℕ) : Type 0 where
  pub f : ℕ
  pub g : ℕ
  pub f_lt : f < n
  pub g_lt : g < n
  pub e_f : e ≢ f
  pub e_g : e ≢ g
  pub f_g : f ≢ g
  pub f_pos : 1 ≤ q f
  pub g_pos : 1 ≤ r g

pub two_apart-pos : (n e : ℕ) (q r : ℕ → ℕ) → 1 ≤ two_apart n e q r → TwoApart n e q r
unfolding two_apart
two_apart-pos n e q r h =
    let s = sum-pos n (λ f. sum n (λ g. ne f g * ((ne e f * q f) * (ne e g * r g)))) h in
    let t = sum-pos n (λ g. ne s.0 g * ((ne e s.0 * q s.0) * (ne e g * r g))) s.2 in
    let u = ne_times_pos s.0 t.0 _ t.2 in
    let v = times_pos _ _ u.1 in
    let x = ne_times_pos e s.0 _ v.0 in
    let y = ne_times_pos e t.0 _ v.1 in
    record {
      f = s.0;
      g = t.0;
      f_lt = s.1;
      g_lt = t.1;
      e_f = x.0;
      e_g = y.0;
      f_g = u.0;
      f_pos = x.1;
      g_pos = y.1;
    }

-- ---- inclusion and exclusion

-- two different indices
pub pair_apart : (n : ℕ) (q r : ℕ → ℕ)
    → sum n (λ f. sum n (λ g. ne f g * (q f * r g))) + sum n (λ f. q f * r f) ≡ sum n q * sum n r
pair_apart n q r =
    sym (sum-add n _ _)
    ∙ sum_ext n _ (λ f. q f * sum n r) (λ f l. sum-ne n f (λ g. q f * r g) l ∙ sum-mul_left n (q f) r)
    ∙ sum-mul_right n (sum n r) q

-- two different indices other than e
pub two_apart_lem : (n e : ℕ) (q r : ℕ → ℕ) → e < n
    → two_apart n e q r + sum n (λ f. q f * r f) + sum n q * r e + q e * sum n r
    ≡ sum n q * sum n r + 2 * (q e * r e)
unfolding two_apart
two_apart_lem n e q r l =
    rw (← sum-ne n e q l, ← sum-ne n e r l, ← sum-ne n e (λ f. q f * r f) l) (omega (
      arith,
      pair_apart n (λ f. ne e f * q f) (λ g. ne e g * r g),
      sum_cong n (λ f. ne_once e f (q f) (r f)),
    ))

pub inclusion_exclusion : (n : ℕ) (p q r : ℕ → ℕ)
    → three_apart n p q r + sum n p * sum n (λ i. q i * r i) + sum n (λ i. p i * r i) * sum n q
    + sum n (λ i. p i * q i) * sum n r
    ≡ sum n p * (sum n q * sum n r) + 2 * sum n (λ i. p i * (q i * r i))
unfolding three_apart
inclusion_exclusion n p q r = omega (arith, simp (sum-add, sum-mul_left, sum-mul_right) at each)
  where
    each : sum n (λ e. p e * two_apart n e q r + p e * sum n (λ i. q i * r i) + p e * r e * sum n q
        + p e * q e * sum n r)
        ≡ sum n (λ e. p e * (sum n q * sum n r) + 2 * (p e * (q e * r e)))
    each = sum_ext n _ _ (λ e l. omega (arith, ap (λ (x : ℕ). p e * x) (two_apart_lem n e q r l)))
