-- Sums and products of floats that are exact.
-- Assumes nothing.
use Rattle.std.specs.Prelude.{◌≡◌, refl, Bool, true, false, ℕ, ◌+◌, ◌-◌, ◌*◌, ◌^◌, ◌≤◌, ◌<◌, T, pos, Float}
use Rattle.std.proofs.Common.{sym, ◌∙◌, ap, ap₂, subst, zero-le, mul-le-mul_right, mul_comm, mul_assoc, mul_right_comm, mul-pos, zero-mul, lt_of_lt_of_le, arith, lit<, lit≤, le-ltb}
use Rattle.std.proofs.Math.Nat.{mul-mul-mul_comm, eq_of_mul-eq-mul_right, sub-zero}
use Rattle.std.specs.Float.{nan, inf, fin, binary64}
use Rattle.std.specs.Float.Ieee.{up, down, round, add, mul, div, of_int, in_float, sum, unlike}
use Rattle.std.specs.Float.Ieee.Fits.{down_pos}
use Rattle.std.specs.Float.Ieee.Exact.{HasValue}
use Rattle.std.specs.Float.Ieee.Back.{round_whole}
use Rattle.std.specs.Float.Ieee.Scale.{round_same}
use Rattle.sums.specs.theorems.TestLaws.{le_iff}
use Rattle.weights.specs.Weights.{over256, IsFraction}
use Rattle.weights.proofs.theorems.Fractions.{signed_exact, over_256_exact}

-- ---- whole numbers

whole_value : (n : ℕ) → n ≤ 2 ^ 53 → HasValue (of_int binary64 (pos n)) false n 1
unfolding of_int
whole_value n h = round_whole binary64 false n h

small : (n : ℕ) → n ≤ 174792640 → n ≤ 2 ^ 53
small n l = omega (arith, few)
  where
    few : 174792640 ≤ 2 ^ 53
    few = lit≤ tt

-- such numbers are floats
pub is_float : (n : ℕ) → n ≤ 174792640 → T (in_float binary64 (pos n))
unfolding in_float
is_float n l = (le_iff n (2 ^ 53)).1 (small n l)

-- k/256 as the code divides
pub quotient : (k : ℕ) → k ≤ 256 → div binary64 (of_int binary64 (pos k)) (fin false 1 (pos 8)) ≡ over256 k
unfolding div
quotient k l = go (of_int binary64 (pos k)) (whole_value k (small k (omega arith)))
  where
    go : (x : Float) → HasValue x false k 1 → div binary64 x (fin false 1 (pos 8)) ≡ over256 k
    go nan v = absurd v
    go (inf s) v = absurd v
    go (fin s m e) v =
        ap (λ (t : Bool). round binary64 (unlike t false) (m * up e * 1) (256 * down e)) v.0
        ∙ round_same binary64 false (m * up e * 1) (256 * down e) k 256 (mul-pos (lit< tt) (down_pos e)) (lit< tt)
        (ap (λ (z : ℕ). z * 256) v.1 ∙ mul_assoc k (down e) 256 ∙ ap (λ (z : ℕ). k * z) (mul_comm (down e) 256))

-- ---- products and sums

mul_value : (x y : Float) (s t : Bool) (a c b d : ℕ) → 0 < c → 0 < d → HasValue x s a c → HasValue y t b d
    → mul binary64 x y ≡ round binary64 (unlike s t) (a * b) (c * d)
unfolding mul
mul_value nan y s t a c b d C D h k = absurd h
mul_value (inf u) y s t a c b d C D h k = absurd h
mul_value (fin u m e) nan s t a c b d C D h k = absurd k
mul_value (fin u m e) (inf v) s t a c b d C D h k = absurd k
mul_value (fin u m e) (fin v n g) s t a c b d C D h k =
    ap₂ (λ (p q : Bool). round binary64 (unlike p q) (m * up e * (n * up g)) (down e * down g)) h.0 k.0
    ∙ round_same binary64 (unlike s t) (m * up e * (n * up g)) (down e * down g) (a * b) (c * d)
    (mul-pos (down_pos e) (down_pos g)) (mul-pos C D)
    (mul-mul-mul_comm (m * up e) (n * up g) c d ∙ ap₂ ◌*◌ h.1 k.1 ∙ mul-mul-mul_comm a (down e) b (down g))

cross : (x dx y dy a b c d : ℕ) → x * c ≡ a * dx → y * d ≡ b * dy
    → (x * dy + y * dx) * (c * d) ≡ (a * d + b * c) * (dx * dy)
cross x dx y dy a b c d h k =
    omega (arith, ap (λ (z : ℕ). z * (dy * d)) h, ap (λ (z : ℕ). z * (dx * c)) k)

-- a sum of two values that are not negative
pub add_value : (x y : Float) (a c b d : ℕ) → 0 < c → 0 < d → HasValue x false a c → HasValue y false b d
    → add binary64 x y ≡ round binary64 false (a * d + b * c) (c * d)
unfolding add sum
add_value nan y a c b d C D h k = absurd h
add_value (inf u) y a c b d C D h k = absurd h
add_value (fin u m e) nan a c b d C D h k = absurd k
add_value (fin u m e) (inf v) a c b d C D h k = absurd k
add_value (fin u m e) (fin v n g) a c b d C D h k =
    ap₂ (λ (p q : Bool). sum binary64 p (m * up e * down g) q (n * up g * down e) (down e * down g)) h.0 k.0
    ∙ round_same binary64 false (m * up e * down g + n * up g * down e) (down e * down g) (a * d + b * c) (c * d)
    (mul-pos (down_pos e) (down_pos g)) (mul-pos C D)
    (cross (m * up e) (down e) (n * up g) (down g) a b c d h.1 k.1)

-- .. of a value and minus zero
add_minus_zero : (x y : Float) (a c d : ℕ) → 0 < c → 0 < d → HasValue x false a c → HasValue y true 0 d
    → add binary64 x y ≡ round binary64 false a c
unfolding add sum
add_minus_zero nan y a c d C D h k = absurd h
add_minus_zero (inf u) y a c d C D h k = absurd h
add_minus_zero (fin u m e) nan a c d C D h k = absurd k
add_minus_zero (fin u m e) (inf v) a c d C D h k = absurd k
add_minus_zero (fin u m e) (fin v n g) a c d C D h k =
    let z : n * up g ≡ 0 = eq_of_mul-eq-mul_right d D (n * up g) 0 (k.1 ∙ zero-mul (down g) ∙ sym (zero-mul d)) in
    let zz : n * up g * down e ≡ 0 = ap (λ (w : ℕ). w * down e) z ∙ zero-mul (down e) in
    ap₂ (λ (p q : Bool). sum binary64 p (m * up e * down g) q (n * up g * down e) (down e * down g)) h.0 k.0
    ∙ ap (λ (w : ℕ). sum binary64 false (m * up e * down g) true w (down e * down g)) zz
    ∙ rw (le-ltb (m * up e * down g) 0 zero-le)
    (round_same binary64 false (m * up e * down g - 0) (down e * down g) a c (mul-pos (down_pos e) (down_pos g)) C
    (ap (λ (w : ℕ). w * c) (sub-zero (m * up e * down g)) ∙ mul_right_comm (m * up e) (down g) c
    ∙ ap (λ (w : ℕ). w * down g) h.1 ∙ mul_assoc a (down e) (down g)))

-- ---- b + p · stars

module _ (b stars : ℕ) (p : Float) (lb : b ≤ 174792640) (ls : stars ≤ 174792640) (k : ℕ) (lk : k ≤ 256) where
  vb : HasValue (of_int binary64 (pos b)) false b 1
  vb = whole_value b (small b lb)

  vs : HasValue (of_int binary64 (pos stars)) false stars 1
  vs = whole_value stars (small stars ls)

  product_small : k * stars < 2 ^ 53
  product_small = lt_of_lt_of_le (low (k * stars) (mul-le-mul_right stars lk)) (lit≤ tt)
    where
      low : (x : ℕ) → x ≤ 256 * stars → x < 44746915841
      low x h = omega arith

  -- p is not negative
  weigh_positive : HasValue p false k 256
      → add binary64 (of_int binary64 (pos b)) (mul binary64 p (of_int binary64 (pos stars))) ≡ over256 (256 * b + k * stars)
  weigh_positive h =
      ap (λ (z : Float). add binary64 (of_int binary64 (pos b)) z)
      (mul_value p (of_int binary64 (pos stars)) false false k 256 stars 1 (lit< tt) (lit< tt) h vs)
      ∙ add_value (of_int binary64 (pos b)) (over256 (k * stars)) b 1 (k * stars) 256 (lit< tt) (lit< tt) vb
      (over_256_exact (k * stars) product_small)
      ∙ ap (λ (z : ℕ). over256 z) (turn b (k * stars))
    where
      turn : (x y : ℕ) → x * 256 + y * 1 ≡ 256 * x + y
      turn x y = omega arith

  -- p is minus zero
  weigh_minus_zero : HasValue p true 0 256 → k ≡ 0
      → add binary64 (of_int binary64 (pos b)) (mul binary64 p (of_int binary64 (pos stars))) ≡ over256 (256 * b + k * stars)
  weigh_minus_zero h z =
      ap (λ (y : Float). add binary64 (of_int binary64 (pos b)) y)
      (mul_value p (of_int binary64 (pos stars)) true false 0 256 stars 1 (lit< tt) (lit< tt) h vs)
      ∙ add_minus_zero (of_int binary64 (pos b)) (round binary64 true (0 * stars) 256) b 1 256 (lit< tt) (lit< tt) vb zero-value
      ∙ round_same binary64 false b 1 (256 * b + k * stars) 256 (lit< tt) (lit< tt) (rw z (omega arith))
    where
      zero-value : HasValue (round binary64 true (0 * stars) 256) true 0 256
      zero-value = rw (zero-mul stars) (signed_exact true 0 (lit< tt))

  pub weigh_fraction : IsFraction p k
      → add binary64 (of_int binary64 (pos b)) (mul binary64 p (of_int binary64 (pos stars))) ≡ over256 (256 * b + k * stars)
  weigh_fraction h = go h.sign h.value h.zero_if
    where
      go : (s : Bool) → HasValue p s k 256 → (s ≡ true → k ≡ 0)
          → add binary64 (of_int binary64 (pos b)) (mul binary64 p (of_int binary64 (pos stars))) ≡ over256 (256 * b + k * stars)
      go false v z = weigh_positive v
      go true v z = weigh_minus_zero (subst (λ (j : ℕ). HasValue p true j 256) (z refl) v) (z refl)
