-- Sums over three labels of products of sums over indices: over the indices first, then over each label by itself.
-- Assumes nothing.
use Rattle.std.specs.Prelude.{◌≡◌}
use Rattle.std.proofs.Common.{sym, ◌∙◌, ap, arith}
use Prim.Native.Nat.{ℕ, zero, suc, ◌+◌, ◌*◌, ◌-◌}
use Rattle.sums.specs.Sum.{sum}
use Rattle.sums.specs.theorems.SumLaws.{sum_cong, sum-mul_left, sum-mul_right, sum-swap}
use Rattle.sums.specs.theorems.BitLaws.{ne}
use Rattle.sums.specs.theorems.SetLaws.{tuples2, tuples3, tuples3_cong}
use Rattle.sums.specs.theorems.Exclusion.{pair_apart}

-- ---- one label and a pair of different ones

-- a sum over an index comes out of the sum over tuples
sum-tuples3 : (m n : ℕ) (f : ℕ → ℕ → ℕ → ℕ → ℕ)
    → tuples3 n (λ a b c. sum m (λ j. f j a b c)) ≡ sum m (λ j. tuples3 n (f j))
unfolding tuples3 tuples2
sum-tuples3 m n f =
    sum_cong n (λ a. sum_cong n (λ b. sum-swap n m (λ c j. f j a b c))
    ∙ sum-swap n m (λ b j. sum n (λ c. f j a b c)))
    ∙ sum-swap n m (λ a j. sum n (λ b. sum n (λ c. f j a b c)))

two_sums : (m k : ℕ) (f g : ℕ → ℕ) → sum m f * sum k g ≡ sum m (λ j. sum k (λ l. f j * g l))
two_sums m k f g = sym (sum-mul_right m (sum k g) f) ∙ sum_cong m (λ j. sym (sum-mul_left k (f j) g))

pair_and-one : (n : ℕ) (f : ℕ → ℕ → ℕ) (g : ℕ → ℕ) → tuples3 n (λ a b c. f a b * g c) ≡ tuples2 n f * sum n g
unfolding tuples3 tuples2
pair_and-one n f g = simp (sum-mul_left, sum-mul_right)

three_sums : (n : ℕ) (e f g : ℕ → ℕ) → tuples3 n (λ a b c. e a * (f b * g c)) ≡ sum n e * (sum n f * sum n g)
unfolding tuples3 tuples2
three_sums n e f g = simp (sum-mul_left, sum-mul_right)

-- pairs of different labels, each counted by p
abbrev pub pairs_of : ℕ → (ℕ → ℕ) → ℕ
pairs_of n p = tuples2 n (λ a b. ne a b * (p a * p b))

-- where p is 0 or 1, x of the labels make x(x − 1) such pairs
pub pairs_of_bits : (n : ℕ) (p : ℕ → ℕ) → ((a : ℕ) → p a * p a ≡ p a) → pairs_of n p ≡ sum n p * (sum n p - 1)
pairs_of_bits n p h = less (sum n p) (pairs_of n p) (
    ap (λ (z : ℕ). pairs_of n p + z) (sum_cong n (λ a. sym (h a))) ∙ unfold tuples2 in pair_apart n p p)
  where
    product : (x z : ℕ) → z ≡ x → suc x * z + suc x ≡ suc x * suc x
    product x z e = rw e (omega arith)

    less : (x y : ℕ) → y + x ≡ x * x → y ≡ x * (x - 1)
    less zero y e = omega arith
    less (suc x) y e = omega (arith, product x (suc x - 1) (omega arith))

-- ---- P j, Q k tell the labels of a pair, R j, S k the third label, for the indices j below m and k below l

-- one sum
pub pairs_with_third : (n m : ℕ) (P R : ℕ → ℕ → ℕ)
    → tuples3 n (λ a b c. ne a b * sum m (λ j. P j a * (P j b * R j c)))
    ≡ sum m (λ j. pairs_of n (P j) * sum n (R j))
pairs_with_third n m P R =
    tuples3_cong n (λ a b c. sym (sum-mul_left m (ne a b) _))
    ∙ sum-tuples3 m n _
    ∙ sum_cong m (λ j. tuples3_cong n (λ a b c. group (ne a b) (P j a) (P j b) (R j c))
    ∙ pair_and-one n (λ a b. ne a b * (P j a * P j b)) (R j))
  where
    group : (x p q r : ℕ) → x * (p * (q * r)) ≡ x * (p * q) * r
    group x p q r = omega arith

module _ (n m l : ℕ) (P R Q S : ℕ → ℕ → ℕ) where
  -- two sums that agree in the pair
  pub pairs_alike :
      tuples3 n (λ a b c. ne a b
      * (sum m (λ j. P j a * (P j b * R j c)) * sum l (λ k. Q k a * (Q k b * S k c))))
      ≡ sum m (λ j. sum l (λ k. pairs_of n (λ a. P j a * Q k a) * sum n (λ c. R j c * S k c)))
  pairs_alike =
      tuples3_cong n (λ a b c.
      ap (λ (z : ℕ). ne a b * z) (two_sums m l _ _)
      ∙ sym (sum-mul_left m (ne a b) _)
      ∙ sum_cong m (λ j. sym (sum-mul_left l (ne a b) _)))
      ∙ sum-tuples3 m n _
      ∙ sum_cong m (λ j. sum-tuples3 l n _
      ∙ sum_cong l (λ k. tuples3_cong n (λ a b c.
      group (ne a b) (P j a) (P j b) (R j c) (Q k a) (Q k b) (S k c))
      ∙ pair_and-one n (λ a b. ne a b * ((P j a * Q k a) * (P j b * Q k b))) (λ c. R j c * S k c)))
    where
      group : (x p q r p' q' r' : ℕ)
          → x * (p * (q * r) * (p' * (q' * r'))) ≡ x * ((p * p') * (q * q')) * (r * r')
      group x p q r p' q' r' = omega arith

  -- two sums that pair the label a with different ones, b and c
  pub pairs_apart_lem :
      tuples3 n (λ a b c. sum m (λ j. P j a * (P j b * R j c)) * sum l (λ k. Q k a * (Q k c * S k b)))
      ≡ sum m (λ j. sum l (λ k. sum n (λ a. P j a * Q k a)
      * (sum n (λ b. P j b * S k b) * sum n (λ c. R j c * Q k c))))
  pairs_apart_lem =
      tuples3_cong n (λ a b c. two_sums m l _ _)
      ∙ sum-tuples3 m n _
      ∙ sum_cong m (λ j. sum-tuples3 l n _
      ∙ sum_cong l (λ k. tuples3_cong n (λ a b c.
      group (P j a) (P j b) (R j c) (Q k a) (Q k c) (S k b))
      ∙ three_sums n (λ a. P j a * Q k a) (λ b. P j b * S k b) (λ c. R j c * Q k c)))
    where
      group : (p q r p' q' r' : ℕ) → p * (q * r) * (p' * (q' * r')) ≡ (p * p') * ((q * r') * (r * q'))
      group p q r p' q' r' = omega arith
