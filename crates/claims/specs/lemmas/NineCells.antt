-- Two nodes with three codes into each: what they add to the claim sums, from the six diagonals of the nine cells.
-- A diagonal is three cells in different rows and different columns.
-- Assumes nothing.
use Rattle.std.specs.Prelude.{◌≡◌, ℕ, zero, suc, ◌+◌, ◌*◌, ◌-◌, ◌≤◌}
use Rattle.std.proofs.Math.Path.{refl}
use Rattle.std.proofs.Common.{sym, ◌∙◌, ap, ap₂, arith}
use Rattle.table_words.specs.Sizes.{tips_most}
use Rattle.sums.specs.theorems.Products.{product_le}
use Rattle.shapes.specs.Claims.{choose2}
use Rattle.shapes.proofs.theorems.OrderedClaims.{choose2_square}
use Rattle.node_pairs.specs.theorems.Cells.{pair_s2, pair_s3}
use Rattle.node_pairs.specs.theorems.ThreeByThree.{term_s2, term_s3, sum_row, sum_nine, pair_s2_three, pair_s3_three}

-- the nine cells are crossings of at most 256 tips
pub record Nine (x0 x1 x2 y0 y1 y2 z0 z1 z2 : ℕ) : Type 0 where
  pub x0_le : x0 ≤ tips_most
  pub x1_le : x1 ≤ tips_most
  pub x2_le : x2 ≤ tips_most
  pub y0_le : y0 ≤ tips_most
  pub y1_le : y1 ≤ tips_most
  pub y2_le : y2 ≤ tips_most
  pub z0_le : z0 ≤ tips_most
  pub z1_le : z1 ≤ tips_most
  pub z2_le : z2 ≤ tips_most

-- the first, the second, or another
abbrev pub of_three : {A : Type 0} → A → A → A → ℕ → A
of_three a b c zero = a
of_three a b c (suc zero) = b
of_three a b c (suc (suc i)) = c

-- the cells by row and column
abbrev pub three_rows : ℕ → ℕ → ℕ → ℕ → ℕ → ℕ → ℕ → ℕ → ℕ → ℕ → ℕ → ℕ
three_rows x0 x1 x2 y0 y1 y2 z0 z1 z2 = of_three (of_three x0 x1 x2) (of_three y0 y1 y2) (of_three z0 z1 z2)

-- the sum of F over three diagonals
abbrev pub sum_three : (ℕ → ℕ → ℕ → ℕ) → ℕ → ℕ → ℕ → ℕ → ℕ → ℕ → ℕ → ℕ → ℕ → ℕ
sum_three F p0 q0 r0 p1 q1 r1 p2 q2 r2 = F p0 q0 r0 + F p1 q1 r1 + F p2 q2 r2

-- .. and over all six: three that have every cell once, and the other three
abbrev sum_diagonals : (ℕ → ℕ → ℕ → ℕ) → ℕ → ℕ → ℕ → ℕ → ℕ → ℕ → ℕ → ℕ → ℕ → ℕ
sum_diagonals F x0 x1 x2 y0 y1 y2 z0 z1 z2 =
    sum_three F x0 y1 z2 x1 y2 z0 x2 y0 z1 + sum_three F x0 y2 z1 x1 y0 z2 x2 y1 z0

-- the product of a diagonal, ..
abbrev pub product : ℕ → ℕ → ℕ → ℕ
product p q r = p * q * r

-- .. and the product times the sum
abbrev pub weighed_product : ℕ → ℕ → ℕ → ℕ
weighed_product p q r = p * q * r * (p + q + r)

-- ---- bounds

module _ (p q r : ℕ) (hp : p ≤ tips_most) (hq : q ≤ tips_most) (hr : r ≤ tips_most) where
  pub pair_le : p * q ≤ 65536
  pair_le = product_le tips_most tips_most p q hp hq

  pub diagonal_le : product p q r ≤ 16777216
  diagonal_le = product_le 65536 tips_most (p * q) r pair_le hr

  pub weighed_le : weighed_product p q r ≤ 12884901888
  weighed_le = product_le 16777216 768 (p * q * r) (p + q + r) diagonal_le (omega (arith, hp, hq, hr))

-- all cells times the products of two times three diagonals
pub all-le : (x0 x1 x2 y0 y1 y2 z0 z1 z2 p p' : ℕ) → Nine x0 x1 x2 y0 y1 y2 z0 z1 z2 → p ≤ 50331648
    → p' ≤ 50331648 → (x0 + x1 + x2 + y0 + y1 + y2 + z0 + z1 + z2) * (p + p') ≤ 231928233984
all-le x0 x1 x2 y0 y1 y2 z0 z1 z2 p p' h k l =
    product_le 2304 100663296 (x0 + x1 + x2 + y0 + y1 + y2 + z0 + z1 + z2) (p + p') (omega arith) (omega arith)

-- ---- the claim sums

-- what a cell t gives with two cells a and b of one of the two diagonals through it, where c and d are the cells of
-- the other: for S2 ..
abbrev part_s2 : ℕ → ℕ → ℕ → ℕ → ℕ → ℕ
part_s2 t a b c d = choose2 t * (a * b)

-- .. and for S3
abbrev part_s3 : ℕ → ℕ → ℕ → ℕ → ℕ → ℕ
part_s3 t a b c d = t * (a * b) * (c + d)

-- the parts of the three cells of a diagonal
abbrev sum_parts : (ℕ → ℕ → ℕ → ℕ → ℕ → ℕ) → ℕ → ℕ → ℕ → ℕ → ℕ → ℕ → ℕ → ℕ → ℕ → ℕ
sum_parts P p q r a b c d e f = P p q r a b + P q r p c d + P r p q e f

diagonal_S2 : (p q r a b c d e f : ℕ) → 2 * sum_parts part_s2 p q r a b c d e f + 3 * product p q r ≡ weighed_product p q r
diagonal_S2 p q r a b c d e f = omega (
  arith,
  ap (λ (z : ℕ). z * (q * r)) (choose2_square p),
  ap (λ (z : ℕ). z * (r * p)) (choose2_square q),
  ap (λ (z : ℕ). z * (p * q)) (choose2_square r),
)

-- n is the sum of all nine cells
diagonal_S3 : (n p q r a b c d e f : ℕ) → n ≡ p + q + r + (a + b + (c + d) + (e + f))
    → sum_parts part_s3 p q r a b c d e f + weighed_product p q r ≡ n * product p q r
diagonal_S3 n p q r a b c d e f h = rw h (omega arith)

module _ (x0 x1 x2 y0 y1 y2 z0 z1 z2 : ℕ) where
  -- S of the six diagonals, each with the cells off it
  abbrev all_diagonals : (ℕ → ℕ → ℕ → ℕ → ℕ → ℕ → ℕ → ℕ → ℕ → ℕ) → ℕ
  all_diagonals S =
      S x0 y1 z2 y2 z1 z0 x2 x1 y0
      + S x1 y2 z0 y0 z2 z1 x0 x2 y1
      + S x2 y0 z1 y1 z0 z2 x1 x0 y2
      + S x0 y2 z1 y1 z2 z0 x1 x2 y0
      + S x1 y0 z2 y2 z0 z1 x2 x0 y1
      + S x2 y1 z0 y0 z1 z2 x0 x1 y2

  -- each cell is on two diagonals
  nine_parts : (F P : ℕ → ℕ → ℕ → ℕ → ℕ → ℕ)
      → ((t p q r s : ℕ) → F t p q r s ≡ P t p s q r + P t q r p s)
      → sum_nine F (three_rows x0 x1 x2 y0 y1 y2 z0 z1 z2) ≡ all_diagonals (sum_parts P)
  nine_parts F P h = written ∙ omega (
    arith,
    h x0 y1 y2 z1 z2,
    h x1 y2 y0 z2 z0,
    h x2 y0 y1 z0 z1,
    h y0 z1 z2 x1 x2,
    h y1 z2 z0 x2 x0,
    h y2 z0 z1 x0 x1,
    h z0 x1 x2 y1 y2,
    h z1 x2 x0 y2 y0,
    h z2 x0 x1 y0 y1,
  )
    where
      written : sum_nine F (three_rows x0 x1 x2 y0 y1 y2 z0 z1 z2)
          ≡ F x0 y1 y2 z1 z2 + F x1 y2 y0 z2 z0 + F x2 y0 y1 z0 z1
          + (F y0 z1 z2 x1 x2 + F y1 z2 z0 x2 x0 + F y2 z0 z1 x0 x1)
          + (F z0 x1 x2 y1 y2 + F z1 x2 x0 y2 y0 + F z2 x0 x1 y0 y1)
      written = unfold sum_nine sum_row in refl

  all_S2 : (S : ℕ → ℕ → ℕ → ℕ → ℕ → ℕ → ℕ → ℕ → ℕ → ℕ) (G H : ℕ → ℕ → ℕ → ℕ)
      → ((p q r a b c d e f : ℕ) → 2 * S p q r a b c d e f + 3 * G p q r ≡ H p q r)
      → 2 * all_diagonals S + 3 * sum_diagonals G x0 x1 x2 y0 y1 y2 z0 z1 z2
      ≡ sum_diagonals H x0 x1 x2 y0 y1 y2 z0 z1 z2
  all_S2 S G H h = omega (
    arith,
    h x0 y1 z2 y2 z1 z0 x2 x1 y0,
    h x1 y2 z0 y0 z2 z1 x0 x2 y1,
    h x2 y0 z1 y1 z0 z2 x1 x0 y2,
    h x0 y2 z1 y1 z2 z0 x1 x2 y0,
    h x1 y0 z2 y2 z0 z1 x2 x0 y1,
    h x2 y1 z0 y0 z1 z2 x0 x1 y2,
  )

  all_S3 : (n : ℕ) → n ≡ x0 + x1 + x2 + y0 + y1 + y2 + z0 + z1 + z2
      → (S : ℕ → ℕ → ℕ → ℕ → ℕ → ℕ → ℕ → ℕ → ℕ → ℕ) (G H : ℕ → ℕ → ℕ → ℕ)
      → ((p q r a b c d e f : ℕ) → n ≡ p + q + r + (a + b + (c + d) + (e + f))
      → S p q r a b c d e f + H p q r ≡ n * G p q r)
      → all_diagonals S + sum_diagonals H x0 x1 x2 y0 y1 y2 z0 z1 z2
      ≡ n * sum_diagonals G x0 x1 x2 y0 y1 y2 z0 z1 z2
  all_S3 n e S G H h = omega (
    arith,
    h x0 y1 z2 y2 z1 z0 x2 x1 y0 (omega (arith, e)),
    h x1 y2 z0 y0 z2 z1 x0 x2 y1 (omega (arith, e)),
    h x2 y0 z1 y1 z0 z2 x1 x0 y2 (omega (arith, e)),
    h x0 y2 z1 y1 z2 z0 x1 x2 y0 (omega (arith, e)),
    h x1 y0 z2 y2 z0 z1 x2 x0 y1 (omega (arith, e)),
    h x2 y1 z0 y0 z1 z2 x0 x1 y2 (omega (arith, e)),
  )

  -- a diagonal gives its product times its sum less three
  diagonals_S2 : pair_s2 3 3 (three_rows x0 x1 x2 y0 y1 y2 z0 z1 z2)
      + 3 * sum_diagonals product x0 x1 x2 y0 y1 y2 z0 z1 z2
      ≡ sum_diagonals weighed_product x0 x1 x2 y0 y1 y2 z0 z1 z2
  diagonals_S2 =
      ap (λ (z : ℕ). z + 3 * sum_diagonals product x0 x1 x2 y0 y1 y2 z0 z1 z2)
      (pair_s2_three (three_rows x0 x1 x2 y0 y1 y2 z0 z1 z2)
      ∙ ap (λ (z : ℕ). 2 * z) (nine_parts term_s2 part_s2 (λ t p q r s. omega arith)))
      ∙ all_S2 (sum_parts part_s2) product weighed_product diagonal_S2

  -- a diagonal gives its product times the sum of the cells off it
  diagonals_S3 : pair_s3 3 3 (three_rows x0 x1 x2 y0 y1 y2 z0 z1 z2)
      + sum_diagonals weighed_product x0 x1 x2 y0 y1 y2 z0 z1 z2
      ≡ (x0 + x1 + x2 + y0 + y1 + y2 + z0 + z1 + z2) * sum_diagonals product x0 x1 x2 y0 y1 y2 z0 z1 z2
  diagonals_S3 =
      ap (λ (z : ℕ). z + sum_diagonals weighed_product x0 x1 x2 y0 y1 y2 z0 z1 z2)
      (pair_s3_three (three_rows x0 x1 x2 y0 y1 y2 z0 z1 z2)
      ∙ nine_parts term_s3 part_s3 (λ t p q r s. omega arith))
      ∙ all_S3 _ refl (sum_parts part_s3) product weighed_product (diagonal_S3 _)

  -- the same from the sums p, p' of the products of three diagonals and the other three, and w, w' of their
  -- products times their sums
  module _ (p p' w w' : ℕ) (hp : p ≡ sum_three product x0 y1 z2 x1 y2 z0 x2 y0 z1)
      (hp' : p' ≡ sum_three product x0 y2 z1 x1 y0 z2 x2 y1 z0)
      (hw : w ≡ sum_three weighed_product x0 y1 z2 x1 y2 z0 x2 y0 z1)
      (hw' : w' ≡ sum_three weighed_product x0 y2 z1 x1 y0 z2 x2 y1 z0) where
    pub nine_S2 : pair_s2 3 3 (three_rows x0 x1 x2 y0 y1 y2 z0 z1 z2) + 3 * (p + p') ≡ w + w'
    nine_S2 =
        ap₂ (λ (a b : ℕ). pair_s2 3 3 (three_rows x0 x1 x2 y0 y1 y2 z0 z1 z2) + 3 * (a + b)) hp hp'
        ∙ diagonals_S2
        ∙ sym (ap₂ (λ (a b : ℕ). a + b) hw hw')

    pub nine_S3 : pair_s3 3 3 (three_rows x0 x1 x2 y0 y1 y2 z0 z1 z2) + (w + w')
        ≡ (x0 + x1 + x2 + y0 + y1 + y2 + z0 + z1 + z2) * (p + p')
    nine_S3 =
        ap₂ (λ (a b : ℕ). pair_s3 3 3 (three_rows x0 x1 x2 y0 y1 y2 z0 z1 z2) + (a + b)) hw hw'
        ∙ diagonals_S3
        ∙ sym (ap₂ (λ (a b : ℕ). (x0 + x1 + x2 + y0 + y1 + y2 + z0 + z1 + z2) * (a + b)) hp hp')

    -- the subtractions
    pub less_S2 : w + w' - 3 * (p + p') ≡ pair_s2 3 3 (three_rows x0 x1 x2 y0 y1 y2 z0 z1 z2)
    less_S2 = omega (arith, nine_S2)

    pub less_S3 : (x0 + x1 + x2 + y0 + y1 + y2 + z0 + z1 + z2) * (p + p') - (w + w')
        ≡ pair_s3 3 3 (three_rows x0 x1 x2 y0 y1 y2 z0 z1 z2)
    less_S3 = ap (λ (z : ℕ). z - (w + w')) (sym nine_S3) ∙ omega arith
