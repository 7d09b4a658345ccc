-- Three lines of a block: their sums and products, and what these come to.
-- Assumes nothing.
use Rattle.std.specs.Prelude.{◌≡◌, refl, List, ℕ, ◌+◌, ◌*◌, ◌≤◌, ◌<◌, length}
use Rattle.std.proofs.Common.{◌∙◌, ap, arith}
use Rattle.table_words.specs.Sizes.{node_room, tips_most}
use Rattle.sums.specs.Sum.{sum}
use Rattle.sums.specs.theorems.Products.{product_le}
use Rattle.sums.specs.theorems.Exclusion.{pair_apart}
use Rattle.node_pairs.specs.theorems.Cells.{pair_s2, pair_s3}
use Rattle.node_pairs.specs.theorems.ThreeRows.{products, weighed, products3, weighed3, products_turned, weighed_turned}
use Rattle.node_pairs.specs.theorems.ThreeRows.{three_rows-S2, three_rows-S3}
use Rattle.claims.specs.lemmas.CellLines.{line_cell}
use Rattle.claims.specs.lemmas.LineDots.{FewLines, line_of}

-- a line in a slice, short and low
pub record LowLine (cells : List ℕ) (at step len : ℕ) : Type 0 where
  pub inside : (a : ℕ) → a < len → at + a * step < length cells
  pub low : (a : ℕ) → a < len → line_cell cells at step a ≤ tips_most
  pub few : len ≤ tips_most
  pub step_few : step ≤ tips_most
  pub at_few : at ≤ node_room

-- the sums of the line f, where g is another line
pub record TwoSums (len : ℕ) (f g : ℕ → ℕ) (x xx xy wxy : ℕ) : Type 0 where
  pub sum_is : x ≡ sum len f
  pub squares_is : xx ≡ products len f f
  pub beside_is : xy ≡ products len f g
  pub weighed_is : wxy ≡ weighed len f g
  pub squares_le : xx ≤ 16777216
  pub beside_le : xy ≤ 16777216
  pub weighed_le : wxy ≤ 8589934592

-- three lines of a block, by where they begin: each is low, its sum too, and it is that line of the block
module _ (cells : List ℕ) (gap step len : ℕ) (h : FewLines cells gap 3 step len) where
  low_line : (i at : ℕ) → i < 3 → at ≡ i * gap → LowLine cells at step len
  low_line i at l e = rw e (record {
    inside = λ a m. h.inside i a l m;
    low = λ a m. h.low i a l m;
    few = h.len_few;
    step_few = h.step_few;
    at_few = omega (arith, product_le 2 tips_most i gap (omega arith) h.gap_few);
  })

  total-le : (i at : ℕ) → i < 3 → at ≡ i * gap → sum len (line_cell cells at step) ≤ tips_most
  total-le i at l e = rw e (h.total i l)

  line_is : (i at : ℕ) → at ≡ i * gap → line_cell cells at step ≡ line_of cells gap step i
  line_is i at e = ap (λ (k : ℕ). line_cell cells k step) e

  -- the first line, ..
  pub first_low : LowLine cells 0 step len
  first_low = low_line 0 0 (omega arith) (omega arith)

  pub first-le : sum len (line_cell cells 0 step) ≤ tips_most
  first-le = total-le 0 0 (omega arith) (omega arith)

  pub first_is : line_cell cells 0 step ≡ line_of cells gap step 0
  first_is = line_is 0 0 (omega arith)

  -- .. the second ..
  pub second_low : LowLine cells gap step len
  second_low = low_line 1 gap (omega arith) (omega arith)

  pub second_le : sum len (line_cell cells gap step) ≤ tips_most
  second_le = total-le 1 gap (omega arith) (omega arith)

  pub second_is : line_cell cells gap step ≡ line_of cells gap step 1
  second_is = line_is 1 gap (omega arith)

  -- .. and the third
  pub third_low : LowLine cells (2 * gap) step len
  third_low = low_line 2 (2 * gap) (omega arith) refl

  pub third_le : sum len (line_cell cells (2 * gap) step) ≤ tips_most
  third_le = total-le 2 (2 * gap) (omega arith) refl

  pub third_is : line_cell cells (2 * gap) step ≡ line_of cells gap step 2
  third_is = refl

-- ---- the sums of three lines f, g and h

-- each with the next, and all three together
pub record ThreeSums (len : ℕ) (f g h : ℕ → ℕ) (x y z xx yy zz xy yz zx wxy wyz wzx t q : ℕ) : Type 0 where
  pub first : TwoSums len f g x xx xy wxy
  pub second : TwoSums len g h y yy yz wyz
  pub third : TwoSums len h f z zz zx wzx
  pub t_is : t ≡ products3 len f g h
  pub q_is : q ≡ weighed3 len f g h

-- the products at the same place are some of all products
same_place_le : (len : ℕ) (f g : ℕ → ℕ) → products len f g ≤ sum len f * sum len g
same_place_le len f g = omega (arith, pair_apart len f g)

module _ (len : ℕ) (f g h : ℕ → ℕ) (x y z xx yy zz xy yz zx wxy wyz wzx t q : ℕ)
    (s : ThreeSums len f g h x y z xx yy zz xy yz zx wxy wyz wzx t q) where
  -- the third line with the first, as the first with the third
  zx_is : zx ≡ products len f h
  zx_is = s.third.beside_is ∙ products_turned len h f

  wzx_is : wzx ≡ weighed len f h
  wzx_is = s.third.weighed_is ∙ weighed_turned len h f

  -- .. of two lines each
  pub yz_le : yz ≤ y * z
  yz_le = rw (s.second.sum_is, s.third.sum_is, s.second.beside_is) (same_place_le len g h)

  pub zx_le : zx ≤ x * z
  zx_le = rw (s.first.sum_is, s.third.sum_is, zx_is) (same_place_le len f h)

  pub xy_le : xy ≤ x * y
  xy_le = rw (s.first.sum_is, s.second.sum_is, s.first.beside_is) (same_place_le len f g)

  -- u, v and w are the products at different places of two lines
  module _ (I : ℕ → ℕ → ℕ) (hf : f ≡ I 0) (hg : g ≡ I 1) (hh : h ≡ I 2) (u v w : ℕ)
      (hu : u + yz ≡ y * z) (hv : v + zx ≡ x * z) (hw : w + xy ≡ x * y) where
    u_is : u + products len (I 1) (I 2) ≡ sum len (I 1) * sum len (I 2)
    u_is = rw (s.second.sum_is, s.third.sum_is, s.second.beside_is, hg, hh) at hu

    v_is : v + products len (I 0) (I 2) ≡ sum len (I 0) * sum len (I 2)
    v_is = rw (s.first.sum_is, s.third.sum_is, zx_is, hf, hh) at hv

    w_is : w + products len (I 0) (I 1) ≡ sum len (I 0) * sum len (I 1)
    w_is = rw (s.first.sum_is, s.second.sum_is, s.first.beside_is, hf, hg) at hw

    -- twice S2, as it is added up
    pub lines-S2 : (squares sums beside weigh : ℕ) → squares ≡ xx * u + yy * v + zz * w
        → sums ≡ x * u + y * v + z * w → beside ≡ xy * z + zx * y + yz * x
        → weigh ≡ wxy * z + wzx * y + wyz * x
        → pair_s2 3 len I + sums + weigh + 6 * t ≡ squares + 2 * (beside + q)
    lines-S2 squares sums beside weigh e1 e2 e3 e4 = rw (e1, e2, e3, e4) (closed ∙ omega arith)
      where
        closed : pair_s2 3 len I + (x * u + y * v + z * w) + (wxy * z + wzx * y + wyz * x) + 6 * t
            ≡ xx * u + yy * v + zz * w + 2 * (xy * z + zx * y + yz * x) + 2 * q
        closed = rw (
          s.first.sum_is,
          s.second.sum_is,
          s.third.sum_is,
          s.first.squares_is,
          s.second.squares_is,
          s.third.squares_is,
          s.first.beside_is,
          zx_is,
          s.second.beside_is,
          s.first.weighed_is,
          wzx_is,
          s.second.weighed_is,
          s.t_is,
          s.q_is,
        )
            (rw (hf, hg, hh) (three_rows-S2 len I u v w u_is v_is w_is))

    -- .. and S3
    pub lines-S3 : (hooks weigh : ℕ) → hooks ≡ xy * (u + v) + zx * (u + w) + yz * (v + w)
        → weigh ≡ wxy * z + wzx * y + wyz * x
        → pair_s3 3 len I + weigh + 2 * (t * (x + y + z)) ≡ hooks + 4 * q
    lines-S3 hooks weigh e1 e2 = rw (e1, e2) closed
      where
        closed : pair_s3 3 len I + (wxy * z + wzx * y + wyz * x) + 2 * (t * (x + y + z))
            ≡ xy * (u + v) + zx * (u + w) + yz * (v + w) + 4 * q
        closed = rw (
          s.first.sum_is,
          s.second.sum_is,
          s.third.sum_is,
          s.first.beside_is,
          zx_is,
          s.second.beside_is,
          s.first.weighed_is,
          wzx_is,
          s.second.weighed_is,
          s.t_is,
          s.q_is,
        )
            (rw (hf, hg, hh) (three_rows-S3 len I u v w u_is v_is w_is))
