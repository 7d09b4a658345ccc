-- Products and sums over the labels other than x and y.
-- Assumes nothing.
use Rattle.std.specs.Prelude.{◌≡◌, ℕ, ◌+◌, ◌*◌}
use Rattle.std.proofs.Math.Path.{sym, ap}
use Rattle.std.proofs.Common.{◌∙◌}
use Rattle.sums.specs.Sum.{sum}
use Rattle.sums.specs.theorems.SumLaws.{sum_cong, sum-swap, sum-mul_left}
use Rattle.sums.specs.theorems.BitLaws.{ne}
use Rattle.exchanges.specs.theorems.Others.{Other, sum_of_others, others2, others3, others4}
use Rattle.exchanges.proofs.theorems.Others.{others_ext, others_cong, others-add}
use Rattle.exchanges.proofs.theorems.Others.{others-mul_left, others-mul_right}

module _ (n x y : ℕ) where
  pub others-sum : (K : ℕ) (f : ℕ → ℕ → ℕ)
      → sum_of_others n x y (λ a. sum K (f a)) ≡ sum K (λ v. sum_of_others n x y (λ a. f a v))
  unfolding sum_of_others
  others-sum K f =
      sum_cong n (λ a. ap (λ (z : ℕ). ne x a * z) (sym (sum-mul_left K (ne y a) (f a)))
      ∙ sym (sum-mul_left K (ne x a) (λ v. ne y a * f a v)))
      ∙ sum-swap n K (λ a v. ne x a * (ne y a * f a v))

  pub others2-sum : (K : ℕ) (f : ℕ → ℕ → ℕ → ℕ)
      → others2 n x y (λ a b. sum K (f a b)) ≡ sum K (λ v. others2 n x y (λ a b. f a b v))
  unfolding others2
  others2-sum K f =
      others_cong n x y (λ a. others-sum K (f a)) ∙ others-sum K (λ a v. sum_of_others n x y (λ b. f a b v))

  pub others3-sum : (K : ℕ) (f : ℕ → ℕ → ℕ → ℕ → ℕ)
      → others3 n x y (λ a b c. sum K (f a b c)) ≡ sum K (λ v. others3 n x y (λ a b c. f a b c v))
  unfolding others3
  others3-sum K f =
      others_cong n x y (λ a. others2-sum K (f a)) ∙ others-sum K (λ a v. others2 n x y (λ b c. f a b c v))

  pub others2_ext : (f g : ℕ → ℕ → ℕ) → ((a b : ℕ) → Other n x y a → Other n x y b → f a b ≡ g a b)
      → others2 n x y f ≡ others2 n x y g
  unfolding others2
  others2_ext f g h = others_ext n x y _ _ (λ a oa. others_ext n x y _ _ (λ b ob. h a b oa ob))

  pub others3_ext : (f g : ℕ → ℕ → ℕ → ℕ)
      → ((a b c : ℕ) → Other n x y a → Other n x y b → Other n x y c → f a b c ≡ g a b c)
      → others3 n x y f ≡ others3 n x y g
  unfolding others3
  others3_ext f g h = others_ext n x y _ _ (λ a oa. others2_ext (f a) (g a) (λ b c. h a b c oa))

  pub others4_ext : (f g : ℕ → ℕ → ℕ → ℕ → ℕ)
      → ((a b c d : ℕ) → Other n x y a → Other n x y b → Other n x y c → Other n x y d → f a b c d ≡ g a b c d)
      → others4 n x y f ≡ others4 n x y g
  unfolding others4
  others4_ext f g h = others_ext n x y _ _ (λ a oa. others3_ext (f a) (g a) (λ b c d. h a b c d oa))

  pub others2-add : (f g : ℕ → ℕ → ℕ)
      → others2 n x y (λ a b. f a b + g a b) ≡ others2 n x y f + others2 n x y g
  unfolding others2
  others2-add f g = others_cong n x y (λ a. others-add n x y (f a) (g a)) ∙ others-add n x y _ _

  pub others3-add : (f g : ℕ → ℕ → ℕ → ℕ)
      → others3 n x y (λ a b c. f a b c + g a b c) ≡ others3 n x y f + others3 n x y g
  unfolding others3
  others3-add f g = others_cong n x y (λ a. others2-add (f a) (g a)) ∙ others-add n x y _ _

  -- ---- products

  pub product2 : (p q : ℕ → ℕ) → others2 n x y (λ a b. p a * q b) ≡ sum_of_others n x y p * sum_of_others n x y q
  unfolding others2
  product2 p q =
      others_cong n x y (λ a. others-mul_left n x y (p a) q) ∙ others-mul_right n x y (sum_of_others n x y q) p

  pub product3 : (p q r : ℕ → ℕ)
      → others3 n x y (λ a b c. p a * (q b * r c)) ≡ sum_of_others n x y p * (sum_of_others n x y q * sum_of_others n x y r)
  unfolding others3 others2
  product3 p q r =
      others_cong n x y (λ a.
      others_cong n x y (λ b. others-mul_left n x y (p a) (λ c. q b * r c))
      ∙ others-mul_left n x y (p a) (λ b. sum_of_others n x y (λ c. q b * r c))
      ∙ ap (λ (z : ℕ). p a * z) (unfold others2 in product2 q r))
      ∙ others-mul_right n x y (sum_of_others n x y q * sum_of_others n x y r) p

  -- a pair and one
  pub pair_first : (q : ℕ → ℕ → ℕ) (r : ℕ → ℕ)
      → others3 n x y (λ a b c. q a b * r c) ≡ others2 n x y q * sum_of_others n x y r
  unfolding others3 others2
  pair_first q r =
      others_cong n x y (λ a.
      others_cong n x y (λ b. others-mul_left n x y (q a b) r)
      ∙ others-mul_right n x y (sum_of_others n x y r) (q a))
      ∙ others-mul_right n x y (sum_of_others n x y r) (λ a. sum_of_others n x y (q a))

  pub pair_last : (q : ℕ → ℕ → ℕ) (r : ℕ → ℕ)
      → others3 n x y (λ a b c. q b c * r a) ≡ others2 n x y q * sum_of_others n x y r
  unfolding others3 others2
  pair_last q r =
      others_cong n x y (λ a.
      others_cong n x y (λ b. others-mul_right n x y (r a) (q b))
      ∙ others-mul_right n x y (r a) (λ b. sum_of_others n x y (q b)))
      ∙ others-mul_left n x y (sum_of_others n x y (λ b. sum_of_others n x y (q b))) r

  pub pair_ends : (q : ℕ → ℕ → ℕ) (r : ℕ → ℕ)
      → others3 n x y (λ a b c. q a c * r b) ≡ others2 n x y q * sum_of_others n x y r
  unfolding others3 others2
  pair_ends q r =
      others_cong n x y (λ a.
      others_cong n x y (λ b. others-mul_right n x y (r b) (q a))
      ∙ others-mul_left n x y (sum_of_others n x y (q a)) r)
      ∙ others-mul_right n x y (sum_of_others n x y r) (λ a. sum_of_others n x y (q a))
