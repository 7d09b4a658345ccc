-- Sums over tuples of labels, parted by where x and y stand in them.
-- Assumes nothing.
use Rattle.std.specs.Prelude.{◌≡◌, ℕ, ◌+◌, ◌*◌}
use Rattle.std.proofs.Common.{sym, ◌∙◌}
use Rattle.std.proofs.Math.Path.{ap}
use Rattle.std.proofs.Math.Logic.{inl, inr}
use native.Mathlib.Omega.{arith}
use Rattle.sums.specs.Sum.{sum}
use Rattle.sums.specs.theorems.SumLaws.{sum_ext, sum_cong, sum-add, sum-mul_left, sum-mul_right, sum_none, sum_const}
use Rattle.sums.specs.theorems.BitLaws.{ne, ne_other, alike}
use Rattle.sums.specs.theorems.Products.{sum-ne}
use Rattle.sums.specs.theorems.SetLaws.{tuples2, tuples3, tuples4, Symmetric, twenty_four_times}
use Rattle.sums.specs.SetsOfFour.{sets4}
use Rattle.exchanges.specs.theorems.Others.{Other, Two, others2, others3, others4, sum_of_others}

module _ (n x y : ℕ) where
  pub others_ext : (f g : ℕ → ℕ) → ((a : ℕ) → Other n x y a → f a ≡ g a) → sum_of_others n x y f ≡ sum_of_others n x y g
  unfolding sum_of_others
  others_ext f g h = sum_ext n _ _ (λ a l. elim (alike x a) [
    | inl e ↦ rw e.2 (omega arith)
    | inr d ↦ elim (alike y a) [
      | inl e ↦ rw e.2 (omega arith)
      | inr q ↦ rw (h a (record { la = l; xa = d.0; ya = q.0 }))
    ]
  ])

  pub others_cong : {f g : ℕ → ℕ} → ((a : ℕ) → f a ≡ g a) → sum_of_others n x y f ≡ sum_of_others n x y g
  others_cong {f} {g} h = others_ext f g (λ a o. h a)

  pub others-add : (f g : ℕ → ℕ) → sum_of_others n x y (λ a. f a + g a) ≡ sum_of_others n x y f + sum_of_others n x y g
  unfolding sum_of_others
  others-add f g =
      sum_cong n (λ a. spread (ne x a) (ne y a) (f a) (g a))
      ∙ sum-add n (λ a. ne x a * (ne y a * f a)) (λ a. ne x a * (ne y a * g a))
    where
      spread : (p q u v : ℕ) → p * (q * (u + v)) ≡ p * (q * u) + p * (q * v)
      spread p q u v = omega arith

  pub others-mul_left : (c : ℕ) (f : ℕ → ℕ) → sum_of_others n x y (λ a. c * f a) ≡ c * sum_of_others n x y f
  unfolding sum_of_others
  others-mul_left c f =
      sum_cong n (λ a. turn (ne x a) (ne y a) c (f a)) ∙ sum-mul_left n c (λ a. ne x a * (ne y a * f a))
    where
      turn : (p q c u : ℕ) → p * (q * (c * u)) ≡ c * (p * (q * u))
      turn p q c u = omega arith

  pub others-mul_right : (c : ℕ) (f : ℕ → ℕ) → sum_of_others n x y (λ a. f a * c) ≡ sum_of_others n x y f * c
  unfolding sum_of_others
  others-mul_right c f =
      sum_cong n (λ a. turn (ne x a) (ne y a) c (f a)) ∙ sum-mul_right n c (λ a. ne x a * (ne y a * f a))
    where
      turn : (p q c u : ℕ) → p * (q * (u * c)) ≡ (p * (q * u)) * c
      turn p q c u = omega arith

  pub others_none : (f : ℕ → ℕ) → ((a : ℕ) → f a ≡ 0) → sum_of_others n x y f ≡ 0
  unfolding sum_of_others
  others_none f h = sum_none n _ (λ a l. rw (h a) (omega arith))

  module _ (two : Two n x y) where
    -- x, y and the others
    pub sum_parts_lem : (f : ℕ → ℕ) → sum n f ≡ f x + f y + sum_of_others n x y f
    unfolding sum_of_others
    sum_parts_lem f = omega (
      arith,
      sum-ne n x f two.lx,
      sum-ne n y (λ a. ne x a * f a) two.ly,
      ap (λ (z : ℕ). z * f y) (ne_other x y two.xy),
      sum_cong n (λ a. turn (ne x a) (ne y a) (f a)),
    )
      where
        turn : (p q u : ℕ) → q * (p * u) ≡ p * (q * u)
        turn p q u = omega arith

    -- how many others
    pub others-count : 2 + sum_of_others n x y (λ a. 1) ≡ n
    others-count = omega (arith, sum_parts_lem (λ a. 1), sum_const n 1)

-- ---- tuples of others

module _ (n x y : ℕ) (two : Two n x y) where
  parts2 : (f : ℕ → ℕ → ℕ) → ((a b : ℕ) → f a b ≡ f b a) → ((a : ℕ) → f a a ≡ 0)
      → tuples2 n f
      ≡ 2 * f x y + 2 * sum_of_others n x y (f x) + 2 * sum_of_others n x y (f y) + others2 n x y f
  unfolding tuples2 others2
  parts2 f s d = omega (
    arith,
    sum_parts_lem n x y two (λ a. sum n (f a)),
    sum_parts_lem n x y two (f x),
    sum_parts_lem n x y two (f y),
    others_cong n x y (λ a. sum_parts_lem n x y two (f a)),
    others-add n x y (λ a. f a x + f a y) (λ a. sum_of_others n x y (f a)),
    others-add n x y (λ a. f a x) (λ a. f a y),
    others_cong n x y (λ a. s a x),
    others_cong n x y (λ a. s a y),
    s x y,
    d x,
    d y,
  )

  none1 : (f : ℕ → ℕ) → ((a : ℕ) → f a ≡ 0) → sum_of_others n x y f ≡ 0
  none1 = others_none n x y

  none2 : (f : ℕ → ℕ → ℕ) → ((a b : ℕ) → f a b ≡ 0) → others2 n x y f ≡ 0
  unfolding others2
  none2 f h = others_none n x y _ (λ a. others_none n x y _ (h a))

  cong2 : (f g : ℕ → ℕ → ℕ) → ((a b : ℕ) → f a b ≡ g a b) → others2 n x y f ≡ others2 n x y g
  unfolding others2
  cong2 f g h = others_cong n x y (λ a. others_cong n x y (h a))

  parts3 : (f : ℕ → ℕ → ℕ → ℕ) → ((a b c : ℕ) → f a b c ≡ f b a c) → ((a b c : ℕ) → f a b c ≡ f a c b)
      → ((a b : ℕ) → f a a b ≡ 0)
      → tuples3 n f
      ≡ 6 * sum_of_others n x y (f x y) + 3 * others2 n x y (f x) + 3 * others2 n x y (f y) + others3 n x y f
  unfolding tuples3 others3
  parts3 f s t d = omega (
    arith,
    sum_parts_lem n x y two (λ a. tuples2 n (f a)),
    parts2 (f x) (t x) (λ a. zero' x a),
    parts2 (f y) (t y) (λ a. zero' y a),
    d x y,
    none1 (f x x) (d x),
    none1 (f y y) (d y),
    zero' y x,
    s x y x,
    t y x y,
    d y x,
    others_cong n x y (λ b. s y x b),
    others_cong n x y (λ a. parts2 (f a) (t a) (λ b. zero' a b)),
    others-add n x y (λ a. 2 * f a x y + 2 * sum_of_others n x y (f a x) + 2 * sum_of_others n x y (f a y))
        (λ a. others2 n x y (f a)),
    others-add n x y (λ a. 2 * f a x y + 2 * sum_of_others n x y (f a x)) (λ a. 2 * sum_of_others n x y (f a y)),
    others-add n x y (λ a. 2 * f a x y) (λ a. 2 * sum_of_others n x y (f a x)),
    others-mul_left n x y 2 (λ a. f a x y),
    others-mul_left n x y 2 (λ a. sum_of_others n x y (f a x)),
    others-mul_left n x y 2 (λ a. sum_of_others n x y (f a y)),
    others_cong n x y (λ a. s a x y ∙ t x a y),
    moved x,
    moved y,
  )
    where
      zero' : (a b : ℕ) → f a b b ≡ 0
      zero' a b = s a b b ∙ t b a b ∙ d b a

      moved : (z : ℕ) → sum_of_others n x y (λ a. sum_of_others n x y (f a z)) ≡ others2 n x y (f z)
      moved z = unfold others2 in others_cong n x y (λ a. others_cong n x y (λ b. s a z b))

  parts4 : (f : ℕ → ℕ → ℕ → ℕ → ℕ) → Symmetric f
      → tuples4 n f
      ≡ 12 * others2 n x y (f x y) + 4 * others3 n x y (f x) + 4 * others3 n x y (f y) + others4 n x y f
  unfolding tuples4 others4
  parts4 f h = omega (
    arith,
    sum_parts_lem n x y two (λ a. tuples3 n (f a)),
    three x,
    three y,
    none2 (f x x) (h.none x),
    none2 (f y y) (h.none y),
    none1 (f x x y) (h.none x y),
    none1 (f y x y) (λ a. h.middle y x y a ∙ h.none y x a),
    cong2 (f y x) (f x y) (h.first_two y x),
    others_cong n x y (λ a. three a),
    others-add n x y (λ a. 6 * sum_of_others n x y (f a x y) + 3 * others2 n x y (f a x) + 3 * others2 n x y (f a y))
        (λ a. others3 n x y (f a)),
    others-add n x y (λ a. 6 * sum_of_others n x y (f a x y) + 3 * others2 n x y (f a x))
        (λ a. 3 * others2 n x y (f a y)),
    others-add n x y (λ a. 6 * sum_of_others n x y (f a x y)) (λ a. 3 * others2 n x y (f a x)),
    others-mul_left n x y 6 (λ a. sum_of_others n x y (f a x y)),
    others-mul_left n x y 3 (λ a. others2 n x y (f a x)),
    others-mul_left n x y 3 (λ a. others2 n x y (f a y)),
    moved2,
    moved x,
    moved y,
  )
    where
      three : (a : ℕ) → tuples3 n (f a)
          ≡ 6 * sum_of_others n x y (f a x y) + 3 * others2 n x y (f a x) + 3 * others2 n x y (f a y)
          + others3 n x y (f a)
      three a = parts3 (f a) (h.middle a) (h.last_two a) (λ b c. h.first_two a b b c ∙ h.middle b a b c ∙ h.none b a c)

      moved2 : sum_of_others n x y (λ a. sum_of_others n x y (f a x y)) ≡ others2 n x y (f x y)
      moved2 = unfold others2 in
          others_cong n x y (λ a. others_cong n x y (λ b. h.first_two a x y b ∙ h.middle x a y b))

      moved : (z : ℕ) → sum_of_others n x y (λ a. others2 n x y (f a z)) ≡ others3 n x y (f z)
      moved z = unfold others3 in
          others_cong n x y (λ a. cong2 (f a z) (f z a) (h.first_two a z))

  -- the sets of four with both x and y, with one of them, and with neither
  pub sets_parts : (f : ℕ → ℕ → ℕ → ℕ → ℕ) → Symmetric f
      → 24 * sets4 n f
      ≡ 12 * others2 n x y (f x y) + 4 * others3 n x y (f x) + 4 * others3 n x y (f y) + others4 n x y f
  sets_parts f h = sym (twenty_four_times n f h) ∙ parts4 f h
