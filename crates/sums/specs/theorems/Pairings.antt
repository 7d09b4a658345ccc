-- Functions of four labels that read them as two unordered pairs, summed over tuples and over sets of four.
-- Assumes nothing.
use Rattle.std.specs.Prelude.{◌≡◌, ℕ, ◌+◌, ◌*◌}
use Rattle.std.proofs.Common.{◌∙◌, ap, ap₂, arith}
use Rattle.sums.specs.theorems.SetLaws.{tuples4, tuples4_cong, tuples4-add, Symmetric, twenty_four_times}
use Rattle.sums.specs.SetsOfFour.{sets4}
use Rattle.sums.specs.theorems.SetLaws.{tuples4-swap_middle, tuples4-swap_last}

-- f a b c d reads the pairs a, b and c, d, and is 0 where two labels are equal
pub record Pairing (f : ℕ → ℕ → ℕ → ℕ → ℕ) : Type 0 where
  pub swap_left : (a b c d : ℕ) → f a b c d ≡ f b a c d
  pub swap_right : (a b c d : ℕ) → f a b c d ≡ f a b d c
  pub turn : (a b c d : ℕ) → f a b c d ≡ f c d a b
  pub none_left : (a b c : ℕ) → f a a b c ≡ 0
  pub none_across : (a b c : ℕ) → f a b a c ≡ 0

pub pairing_times : (f g : ℕ → ℕ → ℕ → ℕ → ℕ) → Pairing f → Pairing g
    → Pairing (λ a b c d. f a b c d * g a b c d)
pairing_times f g p q = record {
  swap_left = λ a b c d. ap₂ (λ (x y : ℕ). x * y) (p.swap_left a b c d) (q.swap_left a b c d);
  swap_right = λ a b c d. ap₂ (λ (x y : ℕ). x * y) (p.swap_right a b c d) (q.swap_right a b c d);
  turn = λ a b c d. ap₂ (λ (x y : ℕ). x * y) (p.turn a b c d) (q.turn a b c d);
  none_left = λ a b c. rw (p.none_left a b c) (omega arith);
  none_across = λ a b c. rw (p.none_across a b c) (omega arith);
}

-- ---- the three ways to pair four labels

-- the sum of f over them
abbrev pub three_ways : (ℕ → ℕ → ℕ → ℕ → ℕ) → ℕ → ℕ → ℕ → ℕ → ℕ
three_ways f a b c d = f a b c d + f a c b d + f a d b c

three_ways_symmetric : (f : ℕ → ℕ → ℕ → ℕ → ℕ) → Pairing f → Symmetric (three_ways f)
three_ways_symmetric f p = record {
  first_two = λ a b c d. omega (arith, p.swap_left a b c d, p.turn a c b d, p.turn a d b c);
  middle = λ a b c d. omega (arith, p.swap_right a d b c);
  last_two = λ a b c d. omega (
    arith,
    p.swap_right a b c d,
    p.swap_right a c b d,
    p.swap_right a d b c,
  );
  none = λ a b c. omega (arith, p.none_left a b c, p.none_across a b c, p.none_across a c b);
}

-- a set of four has three pairings, and each is met in eight orders
pub eight_times : (n : ℕ) (f : ℕ → ℕ → ℕ → ℕ → ℕ) → Pairing f → tuples4 n f ≡ 8 * sets4 n (three_ways f)
eight_times n f p = omega (
  arith,
  twenty_four_times n (three_ways f) (three_ways_symmetric f p),
  tuples4-add n (λ a b c d. f a b c d + f a c b d) (λ a b c d. f a d b c),
  tuples4-add n f (λ a b c d. f a c b d),
  tuples4-swap_middle n f,
  tuples4-swap_last n (λ a b c d. f a c b d),
)

-- ---- two different ways to pair four labels

-- the sum over them, one read by f and the other by g
abbrev pub different_ways : (ℕ → ℕ → ℕ → ℕ → ℕ) → (ℕ → ℕ → ℕ → ℕ → ℕ) → ℕ → ℕ → ℕ → ℕ → ℕ
different_ways f g a b c d =
    f a b c d * g a c b d + f a b c d * g a d b c
    + f a c b d * g a b c d + f a c b d * g a d b c
    + f a d b c * g a b c d + f a d b c * g a c b d

module _ (f g : ℕ → ℕ → ℕ → ℕ → ℕ) (p : Pairing f) (q : Pairing g) where
  all_ways : (a b c d : ℕ)
      → different_ways f g a b c d + three_ways (λ a b c d. f a b c d * g a b c d) a b c d
      ≡ three_ways f a b c d * three_ways g a b c d
  all_ways a b c d = omega arith

  different_ways_symmetric : Symmetric (different_ways f g)
  different_ways_symmetric = record {
    first_two = λ a b c d. carry a b c d b a c d
        (F.first_two a b c d) (G.first_two a b c d) (FG.first_two a b c d);
    middle = λ a b c d. carry a b c d a c b d (F.middle a b c d) (G.middle a b c d) (FG.middle a b c d);
    last_two = λ a b c d. carry a b c d a b d c
        (F.last_two a b c d) (G.last_two a b c d) (FG.last_two a b c d);
    none = λ a b c. omega (
      arith,
      all_ways a a b c,
      ap (λ (x : ℕ). x * three_ways g a a b c) (F.none a b c),
    );
  }
    where
      F : Symmetric (three_ways f)
      F = three_ways_symmetric f p

      G : Symmetric (three_ways g)
      G = three_ways_symmetric g q

      FG : Symmetric (three_ways (λ a b c d. f a b c d * g a b c d))
      FG = three_ways_symmetric (λ a b c d. f a b c d * g a b c d) (pairing_times f g p q)

      carry : (a b c d w x y z : ℕ) → three_ways f a b c d ≡ three_ways f w x y z
          → three_ways g a b c d ≡ three_ways g w x y z
          → three_ways (λ a b c d. f a b c d * g a b c d) a b c d
          ≡ three_ways (λ a b c d. f a b c d * g a b c d) w x y z
          → different_ways f g a b c d ≡ different_ways f g w x y z
      carry a b c d w x y z h i j = omega (
        arith,
        all_ways a b c d,
        all_ways w x y z,
        ap₂ (λ (x y : ℕ). x * y) h i,
      )

  -- a set of four has six pairs of different pairings, and each is met in four orders
  pub four_times : (n : ℕ)
      → tuples4 n (λ a b c d. f a b c d * g a d c b) ≡ 4 * sets4 n (different_ways f g)
  four_times n =
      tuples4_cong n (λ a b c d. ap (λ (x : ℕ). f a b c d * x) (q.swap_right a d c b))
      ∙ omega (
        arith,
        twenty_four_times n (different_ways f g) different_ways_symmetric,
        split,
        way12,
        way23,
        way21,
        way32,
        way31,
      )
    where
      way13 : ℕ → ℕ → ℕ → ℕ → ℕ
      way13 a b c d = f a b c d * g a d b c

      way12 : tuples4 n (λ a b c d. f a b c d * g a c b d) ≡ tuples4 n way13
      way12 =
          tuples4_cong n (λ a b c d. ap (λ (x : ℕ). x * g a c b d) (p.swap_right a b c d))
          ∙ tuples4-swap_last n way13

      way23 : tuples4 n (λ a b c d. f a c b d * g a d b c) ≡ tuples4 n way13
      way23 =
          tuples4_cong n (λ a b c d. ap (λ (x : ℕ). f a c b d * x) (q.swap_right a d b c))
          ∙ tuples4-swap_middle n way13

      way21 : tuples4 n (λ a b c d. f a c b d * g a b c d) ≡ tuples4 n way13
      way21 = tuples4-swap_middle n (λ a b c d. f a b c d * g a c b d) ∙ way12

      way32 : tuples4 n (λ a b c d. f a d b c * g a c b d) ≡ tuples4 n way13
      way32 = tuples4-swap_last n (λ a b c d. f a c b d * g a d b c) ∙ way23

      way31 : tuples4 n (λ a b c d. f a d b c * g a b c d) ≡ tuples4 n way13
      way31 =
          tuples4_cong n (λ a b c d. ap (λ (x : ℕ). f a d b c * x) (q.swap_right a b c d))
          ∙ tuples4-swap_last n (λ a b c d. f a c b d * g a b c d)
          ∙ way21

      split : tuples4 n (different_ways f g)
          ≡ tuples4 n (λ a b c d. f a b c d * g a c b d) + tuples4 n way13
          + tuples4 n (λ a b c d. f a c b d * g a b c d) + tuples4 n (λ a b c d. f a c b d * g a d b c)
          + tuples4 n (λ a b c d. f a d b c * g a b c d) + tuples4 n (λ a b c d. f a d b c * g a c b d)
      split = simp tuples4-add
