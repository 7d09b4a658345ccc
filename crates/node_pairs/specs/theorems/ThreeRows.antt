-- What two nodes add to the claim sums where three codes lead into one of them, by sums along three rows of cells.
-- Assumes nothing.
use Rattle.std.specs.Prelude.{◌≡◌, refl, ℕ, ◌+◌, ◌*◌}
use Rattle.std.proofs.Common.{sym, ◌∙◌, ap, mul_comm}
use native.Mathlib.Omega.{arith}
use Rattle.sums.specs.Sum.{sum}
use Rattle.sums.specs.theorems.SumLaws.{sum_cong, sum-add, sum-mul_left}
use Rattle.sums.specs.theorems.Exclusion.{three_apart, inclusion_exclusion}
use Rattle.shapes.specs.Claims.{choose2}
use Rattle.shapes.proofs.theorems.OrderedClaims.{choose2_square}
use Rattle.node_pairs.specs.theorems.Cells.{pair_s2, pair_s3}
use Rattle.node_pairs.specs.theorems.ApartSums.{orders, apart-products, apart_hooks}

-- ---- sums along rows of d cells

module _ (d : ℕ) where
  -- two rows: cell by cell their product, ..
  abbrev pub products : (ℕ → ℕ) → (ℕ → ℕ) → ℕ
  products x y = sum d (λ a. x a * y a)

  -- .. and the product times the sum
  abbrev pub weighed : (ℕ → ℕ) → (ℕ → ℕ) → ℕ
  weighed x y = sum d (λ a. x a * y a * (x a + y a))

  -- three rows: the same
  abbrev pub products3 : (ℕ → ℕ) → (ℕ → ℕ) → (ℕ → ℕ) → ℕ
  products3 x y z = sum d (λ a. x a * y a * z a)

  abbrev pub weighed3 : (ℕ → ℕ) → (ℕ → ℕ) → (ℕ → ℕ) → ℕ
  weighed3 x y z = sum d (λ a. x a * y a * z a * (x a + y a + z a))

  -- the order of two rows plays no part
  pub products_turned : (x y : ℕ → ℕ) → products x y ≡ products y x
  products_turned x y = sum_cong d (λ a. mul_comm (x a) (y a))

  pub weighed_turned : (x y : ℕ → ℕ) → weighed x y ≡ weighed y x
  weighed_turned x y = sum_cong d (λ a. regroup (x a) (y a))
    where
      regroup : (x y : ℕ) → x * y * (x + y) ≡ y * x * (y + x)
      regroup x y = omega arith

  -- the squares of x times y, ..
  abbrev square_times : (ℕ → ℕ) → (ℕ → ℕ) → ℕ
  square_times x y = sum d (λ a. x a * x a * y a)

  -- .. and times y and z
  abbrev square_times2 : (ℕ → ℕ) → (ℕ → ℕ) → (ℕ → ℕ) → ℕ
  square_times2 x y z = sum d (λ a. x a * x a * (y a * z a))

  -- a product times a sum, as squares times the others
  weighed_is : (x y : ℕ → ℕ) → weighed x y ≡ square_times x y + square_times y x
  weighed_is x y = sum_cong d (λ a. regroup (x a) (y a)) ∙ sum-add d _ _
    where
      regroup : (x y : ℕ) → x * y * (x + y) ≡ x * x * y + y * y * x
      regroup x y = omega arith

  weighed3_is : (x y z : ℕ → ℕ) → weighed3 x y z ≡ square_times2 x y z + square_times2 y x z + square_times2 z x y
  weighed3_is x y z = sum_cong d (λ a. regroup (x a) (y a) (z a)) ∙ sum-add d _ _
      ∙ ap (λ (s : ℕ). s + square_times2 z x y) (sum-add d _ _)
    where
      regroup : (x y z : ℕ) → x * y * z * (x + y + z) ≡ x * x * (y * z) + y * y * (x * z) + z * z * (x * y)
      regroup x y z = omega arith

  -- ---- S2

  -- twice the pairs in x, with weights
  pairs_twice : (x w : ℕ → ℕ)
      → 2 * sum d (λ a. choose2 (x a) * w a) + sum d (λ a. x a * w a) ≡ sum d (λ a. x a * x a * w a)
  pairs_twice x w =
      ap (λ (s : ℕ). s + sum d (λ a. x a * w a)) (sym (sum-mul_left d 2 _))
      ∙ sym (sum-add d _ _)
      ∙ sum_cong d (λ a. omega (arith, ap (λ (s : ℕ). s * w a) (choose2_square (x a))))

  -- .. and without
  pairs_all : (x : ℕ → ℕ) → 2 * sum d (λ a. choose2 (x a)) + sum d x ≡ products x x
  pairs_all x =
      ap (λ (s : ℕ). s + sum d x) (sym (sum-mul_left d 2 _))
      ∙ sym (sum-add d _ _)
      ∙ sum_cong d (λ a. choose2_square (x a))

  -- the order of the second and the third factor plays no part
  apart_turned : (p q r : ℕ → ℕ) → three_apart d p q r ≡ three_apart d p r q
  apart_turned p q r = omega (
    arith,
    inclusion_exclusion d p q r,
    inclusion_exclusion d p r q,
    ap (λ (s : ℕ). sum d p * s) (sum_cong d (λ a. mul_comm (q a) (r a))),
    sum_cong d (λ a. ap (λ (s : ℕ). p a * s) (mul_comm (q a) (r a))),
  )

  -- the pairs in x, times a cell of y and one of z; u is the sum of the products of two cells of y and z in
  -- different columns
  pairs_row : (x y z : ℕ → ℕ) (xy xz u t : ℕ) → xy ≡ products x y → xz ≡ products x z → t ≡ products3 x y z
      → u + products y z ≡ sum d y * sum d z
      → three_apart d (λ a. choose2 (x a)) y z + three_apart d (λ a. choose2 (x a)) z y + sum d x * u
      + square_times x z * sum d y + square_times x y * sum d z + 2 * t
      ≡ products x x * u + xz * sum d y + xy * sum d z + 2 * square_times2 x y z
  pairs_row x y z xy xz u t hxy hxz ht hu = rw (hxy, hxz, ht) (omega (
    arith,
    inclusion_exclusion d (λ a. choose2 (x a)) y z,
    apart_turned (λ a. choose2 (x a)) y z,
    ap (λ (k : ℕ). sum d (λ a. choose2 (x a)) * k) hu,
    ap (λ (k : ℕ). k * u) (pairs_all x),
    ap (λ (k : ℕ). k * sum d y) (pairs_twice x z),
    ap (λ (k : ℕ). k * sum d z) (pairs_twice x y),
    pairs_twice x (λ a. y a * z a),
    sum_cong d (λ a. product (x a) (y a) (z a)),
  ))
    where
      product : (x y z : ℕ) → x * (y * z) ≡ x * y * z
      product x y z = omega arith

  -- ---- S3

  -- a cell of z beside a cell of x, a cell of y and another of x; w is the sum of the products of two cells of x and
  -- y in different columns
  hooks_row : (x y z : ℕ → ℕ) (xz w s t q : ℕ) → xz ≡ products x z → s ≡ square_times x z
      → t ≡ products3 x y z → q ≡ square_times2 x y z → w + products x y ≡ sum d x * sum d y
      → three_apart d (λ a. x a * z a) y x + s * sum d y + t * sum d x ≡ xz * w + 2 * q
  hooks_row x y z xz w s t q hxz hs ht hq hw = rw (hxz, hs, ht, hq) (omega (
    arith,
    inclusion_exclusion d (λ a. x a * z a) y x,
    ap (λ (k : ℕ). products x z * k) hw,
    ap (λ (k : ℕ). products x z * k) (sum_cong d (λ a. mul_comm (y a) (x a))),
    ap (λ (k : ℕ). k * sum d y) (sum_cong d (λ a. square (x a) (z a))),
    ap (λ (k : ℕ). k * sum d x) (sum_cong d (λ a. product (x a) (y a) (z a))),
    sum_cong d (λ a. square2 (x a) (y a) (z a)),
  ))
    where
      square : (x z : ℕ) → x * z * x ≡ x * x * z
      square x z = omega arith

      product : (x y z : ℕ) → x * z * y ≡ x * y * z
      product x y z = omega arith

      square2 : (x y z : ℕ) → x * z * (y * x) ≡ x * x * (y * z)
      square2 x y z = omega arith

  -- ---- three rows

  -- what S2 and S3 both have too much
  abbrev pub all_weighed : (ℕ → ℕ) → (ℕ → ℕ) → (ℕ → ℕ) → ℕ
  all_weighed x y z = weighed x y * sum d z + weighed x z * sum d y + weighed y z * sum d x

  -- u, v and w are the sums of the products of two cells in different columns: of the second and third row, of the
  -- first and third, of the first and second
  module _ (I : ℕ → ℕ → ℕ) (u v w : ℕ) (hu : u + products (I 1) (I 2) ≡ sum d (I 1) * sum d (I 2))
      (hv : v + products (I 0) (I 2) ≡ sum d (I 0) * sum d (I 2))
      (hw : w + products (I 0) (I 1) ≡ sum d (I 0) * sum d (I 1)) where
    abbrev x : ℕ → ℕ
    x = I 0

    abbrev y : ℕ → ℕ
    y = I 1

    abbrev z : ℕ → ℕ
    z = I 2

    -- u, v and w with the rows exchanged
    turned : (x y : ℕ → ℕ) (k : ℕ) → k + products x y ≡ sum d x * sum d y → k + products y x ≡ sum d y * sum d x
    turned x y k h = omega (arith, h, products_turned x y)

    -- the product of three cells, in another order of the rows
    t_turned : (p : ℕ → ℕ → ℕ → ℕ) → ((x y z : ℕ) → x * y * z ≡ p x y z)
        → products3 x y z ≡ sum d (λ a. p (x a) (y a) (z a))
    t_turned p h = sum_cong d (λ a. h (x a) (y a) (z a))

    -- .. and with the square of a cell of x
    inner_turned : (x y z : ℕ → ℕ) → square_times2 x y z ≡ square_times2 x z y
    inner_turned x y z = sum_cong d (λ a. ap (λ (k : ℕ). x a * x a * k) (mul_comm (y a) (z a)))

    -- ---- twice S2

    -- the six orders of the rows
    pairs_six : pair_s2 3 d I
        ≡ three_apart d (λ a. choose2 (x a)) y z + three_apart d (λ a. choose2 (x a)) z y
        + (three_apart d (λ a. choose2 (y a)) x z + three_apart d (λ a. choose2 (y a)) z x)
        + (three_apart d (λ a. choose2 (z a)) x y + three_apart d (λ a. choose2 (z a)) y x)
    unfolding pair_s2
    pairs_six = orders _ ∙ omega (
      arith,
      apart-products d (λ a. choose2 (x a)) y z,
      apart-products d (λ a. choose2 (x a)) z y,
      apart-products d (λ a. choose2 (y a)) x z,
      apart-products d (λ a. choose2 (y a)) z x,
      apart-products d (λ a. choose2 (z a)) x y,
      apart-products d (λ a. choose2 (z a)) y x,
    )

    -- twice S2, from sums along the rows
    pub three_rows-S2 : pair_s2 3 d I + (sum d x * u + sum d y * v + sum d z * w)
        + all_weighed x y z + 6 * products3 x y z
        ≡ products x x * u + products y y * v + products z z * w
        + 2 * (products x y * sum d z + products x z * sum d y + products y z * sum d x)
        + 2 * weighed3 x y z
    three_rows-S2 = rw (pairs_six, weighed_is x y, weighed_is x z, weighed_is y z, weighed3_is x y z)
        (add (sum d x) (sum d y) (sum d z) (products x x) (products y y) (products z z)
        (products x y) (products x z) (products y z)
        _ _ _ _ _ _ (products3 x y z) _ _ _ _ _ _
        (pairs_row x y z _ _ u _ refl refl refl hu)
        (pairs_row y x z _ _ v _ (products_turned x y) refl
        (t_turned (λ x y z. y * x * z) (λ x y z. omega arith)) hv)
        (pairs_row z x y _ _ w _ (products_turned x z) (products_turned y z)
        (t_turned (λ x y z. z * x * y) (λ x y z. omega arith)) hw))
      where
        add : (X Y Z X2 Y2 Z2 xy xz yz xxy yyx xxz zzx yyz zzy t qx qy qz fx fy fz : ℕ)
            → fx + X * u + xxz * Y + xxy * Z + 2 * t ≡ X2 * u + xz * Y + xy * Z + 2 * qx
            → fy + Y * v + yyz * X + yyx * Z + 2 * t ≡ Y2 * v + yz * X + xy * Z + 2 * qy
            → fz + Z * w + zzy * X + zzx * Y + 2 * t ≡ Z2 * w + yz * X + xz * Y + 2 * qz
            → fx + fy + fz + (X * u + Y * v + Z * w)
            + ((xxy + yyx) * Z + (xxz + zzx) * Y + (yyz + zzy) * X) + 6 * t
            ≡ X2 * u + Y2 * v + Z2 * w + 2 * (xy * Z + xz * Y + yz * X) + 2 * (qx + qy + qz)
        add X Y Z X2 Y2 Z2 xy xz yz xxy yyx xxz zzx yyz zzy t qx qy qz fx fy fz a b c = omega (arith, a, b, c)

    -- ---- S3

    -- the six orders of the rows
    hooks_six : pair_s3 3 d I
        ≡ three_apart d (λ a. x a * z a) y x + three_apart d (λ a. x a * y a) z x
        + three_apart d (λ a. y a * z a) x y + three_apart d (λ a. y a * x a) z y
        + three_apart d (λ a. z a * y a) x z + three_apart d (λ a. z a * x a) y z
    unfolding pair_s3
    hooks_six = orders _ ∙ omega (
      arith,
      apart_hooks d x y z,
      apart_hooks d x z y,
      apart_hooks d y x z,
      apart_hooks d y z x,
      apart_hooks d z x y,
      apart_hooks d z y x,
    )

    -- S3, from the same sums
    pub three_rows-S3 : pair_s3 3 d I + all_weighed x y z + 2 * (products3 x y z * (sum d x + sum d y + sum d z))
        ≡ products x y * (u + v) + products x z * (u + w) + products y z * (v + w) + 4 * weighed3 x y z
    three_rows-S3 = rw (hooks_six, weighed_is x y, weighed_is x z, weighed_is y z, weighed3_is x y z)
        (add (sum d x) (sum d y) (sum d z) (products x y) (products x z) (products y z)
        _ _ _ _ _ _ (products3 x y z) _ _ _ _ _ _ _ _ _
        (hooks_row x y z _ w _ _ _ refl refl refl refl hw)
        (hooks_row x z y _ v _ _ _ refl refl
        (t_turned (λ x y z. x * z * y) (λ x y z. omega arith)) (inner_turned x y z) hv)
        (hooks_row y x z _ w _ _ _ refl refl
        (t_turned (λ x y z. y * x * z) (λ x y z. omega arith)) refl (turned x y w hw))
        (hooks_row y z x _ u _ _ _ (products_turned x y) refl
        (t_turned (λ x y z. y * z * x) (λ x y z. omega arith)) (inner_turned y x z) hu)
        (hooks_row z x y _ v _ _ _ (products_turned y z) refl
        (t_turned (λ x y z. z * x * y) (λ x y z. omega arith)) refl (turned x z v hv))
        (hooks_row z y x _ u _ _ _ (products_turned x z) refl
        (t_turned (λ x y z. z * y * x) (λ x y z. omega arith)) (inner_turned z x y) (turned y z u hu)))
      where
        add : (X Y Z xy xz yz xxy yyx xxz zzx yyz zzy t qx qy qz f g h i j k : ℕ)
            → f + xxz * Y + t * X ≡ xz * w + 2 * qx
            → g + xxy * Z + t * X ≡ xy * v + 2 * qx
            → h + yyz * X + t * Y ≡ yz * w + 2 * qy
            → i + yyx * Z + t * Y ≡ xy * u + 2 * qy
            → j + zzy * X + t * Z ≡ yz * v + 2 * qz
            → k + zzx * Y + t * Z ≡ xz * u + 2 * qz
            → f + g + h + i + j + k
            + ((xxy + yyx) * Z + (xxz + zzx) * Y + (yyz + zzy) * X) + 2 * (t * (X + Y + Z))
            ≡ xy * (u + v) + xz * (u + w) + yz * (v + w) + 4 * (qx + qy + qz)
        add X Y Z xy xz yz xxy yyx xxz zzx yyz zzy t qx qy qz f g h i j k a b c e l m =
            omega (arith, a, b, c, e, l, m)
