-- Which floats are a k/256, and that n/256 is exact.
-- Assumes nothing.
use Rattle.std.specs.Prelude.{◌≡◌, refl, Bool, true, false, ◌||◌, ◌↔◌, ℕ, ◌*◌, ◌^◌, ◌≤◌, ◌<◌, T, eqb, pos, Float}
use Rattle.std.proofs.Common.{sym, ◌∙◌, ap, subst, subst₂, mul_assoc, mul_right_comm, lt_of_lt_of_le, mul-lt-mul_of_pos_right, zero-mul, arith, eqb→eq, lit<, lit≤, pow_pos}
use Rattle.std.specs.Bool.{beq}
use Rattle.std.proofs.Math.Nat.{eq_of_mul-eq-mul_right}
use Rattle.std.proofs.Math.Decide.{ℕ_discrete}
use Rattle.std.specs.Float.{nan, inf, fin, binary64}
use Rattle.std.specs.Float.Ieee.{up, down, round, eq}
use Rattle.std.specs.Float.Ieee.Fits.{down_pos, and_i, eq→eqb, and_l, and_r}
use Rattle.std.specs.Float.Ieee.Exact.{HasValue, round_exact}
use Rattle.sums.specs.theorems.TestLaws.{first_is, first-le, first_hit}
use Rattle.weights.specs.Weights.{over256, numerator_of, IsFraction}

-- ---- n/256 is exact below 2 to the power 53

-- with either sign
pub signed_exact : (s : Bool) (n : ℕ) → n < 2 ^ 53 → HasValue (round binary64 s n 256) s n 256
signed_exact s n h = round_exact binary64 s n 256 n 1066 (lit< tt) h
    (lt_of_lt_of_le (mul-lt-mul_of_pos_right h (pow_pos 1066)) (lit≤ tt))
    (sym (mul_assoc n (2 ^ 1066) 256))

pub over_256_exact : (n : ℕ) → n < 2 ^ 53 → HasValue (over256 n) false n 256
over_256_exact n h = signed_exact false n h

-- ---- fractions

-- m/e = n/d and n/d = k/256 give m/e = k/256
carry : (x dx y dy k : ℕ) → 0 < dy → x * dy ≡ y * dx → y * 256 ≡ k * dy → x * 256 ≡ k * dx
carry x dx y dy k D h v =
    eq_of_mul-eq-mul_right dy D (x * 256) (k * dx)
    (mul_right_comm x 256 dy ∙ ap (λ (z : ℕ). z * 256) h ∙ mul_right_comm y dx 256 ∙ ap (λ (z : ℕ). z * dx) v
    ∙ mul_right_comm k dy dx)

-- what the test `x == k/256` tells ..
equal_fraction : (x y : Float) (k : ℕ) → HasValue y false k 256 → T (eq x y) → IsFraction x k
unfolding eq
equal_fraction nan y k v h = absurd h
equal_fraction (inf s) nan k v h = absurd h
equal_fraction (inf s) (inf t) k v h = absurd v
equal_fraction (inf s) (fin t n d) k v h = absurd h
equal_fraction (fin s m e) nan k v h = absurd v
equal_fraction (fin s m e) (inf t) k v h = absurd v
equal_fraction (fin s m e) (fin t n d) k v h =
    let a : ℕ = m * up e * down d in
    let b : ℕ = n * up d * down e in
    let same : a ≡ b = eqb→eq a b (and_l (eqb a b) (beq s t || eqb a 0) h) in
    let val : m * up e * 256 ≡ k * down e = carry (m * up e) (down e) (n * up d) (down d) k (down_pos d) same v.1 in
    record {
      sign = s;
      value = (refl, val);
      zero_if = λ q.
          let r : T (eqb a 0) = subst₂ (λ (p q : Bool). T (beq p q || eqb a 0)) q v.0
          (and_r (eqb a b) (beq s t || eqb a 0) h) in
          let w : m * up e ≡ 0 = eq_of_mul-eq-mul_right (down d) (down_pos d) (m * up e) 0
          (eqb→eq a 0 r ∙ sym (zero-mul (down d))) in
          eq_of_mul-eq-mul_right (down e) (down_pos e) k 0
          (sym val ∙ ap (λ (z : ℕ). z * 256) w ∙ zero-mul 256 ∙ sym (zero-mul (down e)));
    }

-- .. and what passes it
fraction_equal : (x y : Float) (k : ℕ) → HasValue y false k 256 → IsFraction x k → T (eq x y)
unfolding eq
fraction_equal nan y k v h = absurd h.value
fraction_equal (inf s) nan k v h = absurd v
fraction_equal (inf s) (inf t) k v h = absurd v
fraction_equal (inf s) (fin t n d) k v h = absurd h.value
fraction_equal (fin s m e) nan k v h = absurd v
fraction_equal (fin s m e) (inf t) k v h = absurd v
fraction_equal (fin s m e) (fin t n d) k v h =
    let a : ℕ = m * up e * down d in
    let b : ℕ = n * up d * down e in
    let same : a ≡ b =
    eq_of_mul-eq-mul_right 256 (lit< tt) a b
    (mul_right_comm (m * up e) (down d) 256 ∙ ap (λ (z : ℕ). z * down d) h.value.1 ∙ mul_right_comm k (down e) (down d)
    ∙ ap (λ (z : ℕ). z * down e) (sym v.1) ∙ mul_right_comm (n * up d) 256 (down e)) in
    and_i (eqb a b) (beq s t || eqb a 0) (eq→eqb same) (signs s h.value.0)
  where
    none : k ≡ 0 → m * up e * down d ≡ 0
    none z =
        ap (λ (w : ℕ). w * down d) (eq_of_mul-eq-mul_right 256 (lit< tt) (m * up e) 0
        (h.value.1 ∙ ap (λ (w : ℕ). w * down e) z ∙ zero-mul (down e) ∙ sym (zero-mul 256)))
        ∙ zero-mul (down d)

    signs : (u : Bool) → u ≡ h.sign → T (beq u t || eqb (m * up e * down d) 0)
    signs false q = subst (λ (w : Bool). T (beq false w || eqb (m * up e * down d) 0)) (sym v.0) tt
    signs true q = subst (λ (w : Bool). T (beq true w || eqb (m * up e * down d) 0)) (sym v.0)
        (eq→eqb (none (h.zero_if (sym q))))

-- a float is at most one k/256
one_fraction : (x : Float) (j k : ℕ) → IsFraction x j → IsFraction x k → j ≡ k
one_fraction nan j k a b = absurd a.value
one_fraction (inf s) j k a b = absurd a.value
one_fraction (fin s m e) j k a b = eq_of_mul-eq-mul_right (down e) (down_pos e) j k (sym a.value.1 ∙ b.value.1)

-- ---- the numerator

pub numerator_le : (p : Float) → numerator_of p ≤ 257
unfolding numerator_of
numerator_le p = first-le 257 (λ k. eq p (over256 k))

exact : (k : ℕ) → k ≤ 256 → HasValue (over256 k) false k 256
exact k l = over_256_exact k (lt_of_lt_of_le (small k l) (lit≤ tt))
  where
    small : (k : ℕ) → k ≤ 256 → k < 257
    small k l = omega arith

-- it is k exactly if the fraction is k/256
pub numerator_iff : (p : Float) (k : ℕ) → k ≤ 256 → (numerator_of p ≡ k) ↔ IsFraction p k
unfolding numerator_of
numerator_iff p k l = (
  λ e. equal_fraction p (over256 k) k (exact k l)
      (subst (λ (j : ℕ). T (eq p (over256 j))) e (first_hit 257 (λ j. eq p (over256 j)) (omega arith))),
  λ h. first_is 257 (λ j. eq p (over256 j)) k (omega arith)
      (fraction_equal p (over256 k) k (exact k l) h)
      (λ j m y. let d = one_fraction p j k (equal_fraction p (over256 j) j (exact j (omega arith)) y) h in omega arith),
)

-- ---- a fraction that is none

-- 2 is too large
pub two_is_none : numerator_of (fin false 1 (pos 1)) ≡ 257
two_is_none = elim (ℕ_discrete (numerator_of (fin false 1 (pos 1))) 257) [
  | yes e ↦ e
  | no d ↦ (
      let l : numerator_of (fin false 1 (pos 1)) ≤ 256 = omega (arith, numerator_le (fin false 1 (pos 1))) in
      let h = (numerator_iff (fin false 1 (pos 1)) (numerator_of (fin false 1 (pos 1))) l).0 refl in
      absurd (omega (arith, h.value.1)))
]
