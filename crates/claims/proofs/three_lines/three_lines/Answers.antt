-- The sums of three lines come to S2 and S3, and nothing goes below 0 on the way.
-- Assumes nothing.
use mathlib.Core.Path.{◌≡◌}
use Prim.Native.Nat.{ℕ, ◌+◌, ◌*◌, ◌≤◌}
use native.Mathlib.Omega.{arith}
use Rattle.table_words.specs.Sizes.{tips_most}
use Rattle.sums.specs.theorems.Products.{product_le}
use Rattle.node_pairs.specs.theorems.Cells.{pair_s2, pair_s3}
use Rattle.claims.specs.lemmas.CellLines.{line_cell}
use Rattle.claims.specs.lemmas.LineDots.{FewLines, line_of}
use Rattle.claims.specs.lemmas.ThreeLines.{ThreeSums, first_low, second_low, third_low, first-le, second_le, third_le}
use Rattle.claims.specs.lemmas.ThreeLines.{first_is, second_is, third_is, xy_le, yz_le, zx_le, lines-S2, lines-S3}
use Rattle.claims.proofs.three_lines.three_lines.Goals.{After-all_lines-all, After-apart-w, After-three_products-hooks}
use Rattle.claims.proofs.three_lines.three_lines.Goals as goal

-- ---- the sums that were found

module _ (c : After-all_lines-all) where
  abbrev few : FewLines c.args.cells.now c.args.gap 3 c.args.step c.args.len
  few = c.requires

  abbrev x : ℕ
  x = c.two_lines-x.result.sum

  abbrev y : ℕ
  y = c.two_lines-y.result.sum

  abbrev z : ℕ
  z = c.two_lines-z.result.sum

  sums : ThreeSums c.args.len (line_cell c.args.cells.now 0 c.args.step)
      (line_cell c.args.cells.now c.args.gap c.args.step)
      (line_cell c.args.cells.now (2 * c.args.gap) c.args.step)
      x
      y
      z
      c.two_lines-x.result.squares
      c.two_lines-y.result.squares
      c.two_lines-z.result.squares
      c.two_lines-x.result.beside
      c.two_lines-y.result.beside
      c.two_lines-z.result.beside
      c.two_lines-x.result.weighed
      c.two_lines-y.result.weighed
      c.two_lines-z.result.weighed
      c.all_lines-all.result.sum
      c.all_lines-all.result.weighed
  sums = record {
    first = c.two_lines-x.ensures;
    second = c.two_lines-y.ensures;
    third = c.two_lines-z.ensures;
    t_is = c.all_lines-all.ensures.0;
    q_is = c.all_lines-all.ensures.1;
  }

  x-le : x ≤ tips_most
  x-le = omega (arith, sums.first.sum_is, first-le _ _ _ _ few)

  y-le : y ≤ tips_most
  y-le = omega (arith, sums.second.sum_is, second_le _ _ _ _ few)

  z-le : z ≤ tips_most
  z-le = omega (arith, sums.third.sum_is, third_le _ _ _ _ few)

  -- the products of three cells, times all cells
  all-le : c.all_lines-all.result.sum * (x + y + z) ≤ 3298534883328
  all-le = product_le 4294967296 768 _ _ c.all_lines-all.ensures.2 (omega (arith, x-le, y-le, z-le))

-- the products at different places of two lines
module _ (c : After-apart-w) where
  u-le : c.apart-u.result ≤ 131072
  u-le = omega (arith, c.apart-u.ensures.1)

  v-le : c.apart-v.result ≤ 131072
  v-le = omega (arith, c.apart-v.ensures.1)

  w-le : c.apart-w.result ≤ 131072
  w-le = omega (arith, c.apart-w.ensures.1)

-- ---- what they come to

module _ (c : After-three_products-hooks) where
  abbrev all : After-all_lines-all
  all = (goal.at.After-three_products-hooks c).After-all_lines-all

  pairs : pair_s2 3 c.args.len (line_of c.args.cells.now c.args.gap c.args.step)
      + c.three_products-sums.result + c.three_products-weighed.result + 6 * c.all_lines-all.result.sum
      ≡ c.three_products-squares.result
      + 2 * (c.three_products-beside.result + c.all_lines-all.result.weighed)
  pairs = lines-S2 _ _ _ _ _ _ _ _ _ _ _ _ _ _ _ _ _ _ (sums all) _ (first_is _ _ _ _ (few all))
      (second_is _ _ _ _ (few all)) (third_is _ _ _ _ (few all)) _ _ _
      c.apart-u.ensures.0 c.apart-v.ensures.0 c.apart-w.ensures.0
      _ _ _ _ c.three_products-squares.ensures.0 c.three_products-sums.ensures.0
      c.three_products-beside.ensures.0 c.three_products-weighed.ensures.0

  hooks : pair_s3 3 c.args.len (line_of c.args.cells.now c.args.gap c.args.step)
      + c.three_products-weighed.result + 2 * (c.all_lines-all.result.sum * (x all + y all + z all))
      ≡ c.three_products-hooks.result + 4 * c.all_lines-all.result.weighed
  hooks = lines-S3 _ _ _ _ _ _ _ _ _ _ _ _ _ _ _ _ _ _ (sums all) _ (first_is _ _ _ _ (few all))
      (second_is _ _ _ _ (few all)) (third_is _ _ _ _ (few all)) _ _ _
      c.apart-u.ensures.0 c.apart-v.ensures.0 c.apart-w.ensures.0
      _ _ c.three_products-hooks.ensures.0 c.three_products-weighed.ensures.0

-- ---- the calls

pub two_lines-x-requires : goal.two_lines-x-requires
two_lines-x-requires c = (first_low _ _ _ _ c.requires, second_low _ _ _ _ c.requires)

pub overflow_mul-gap : goal.overflow_mul-gap
overflow_mul-gap c = omega (arith, c.requires.gap_few)

pub two_lines-y-requires : goal.two_lines-y-requires
two_lines-y-requires c = (second_low _ _ _ _ c.requires, third_low _ _ _ _ c.requires)

pub overflow_mul-gap-2 : goal.overflow_mul-gap-2
overflow_mul-gap-2 c = omega (arith, c.requires.gap_few)

pub two_lines-z-requires : goal.two_lines-z-requires
two_lines-z-requires c = (third_low _ _ _ _ c.requires, first_low _ _ _ _ c.requires)

pub all_lines-all-requires : goal.all_lines-all-requires
all_lines-all-requires c = (first_low _ _ _ _ c.requires, second_low _ _ _ _ c.requires, third_low _ _ _ _ c.requires)

pub apart-u-requires : goal.apart-u-requires
apart-u-requires c = (y-le c, z-le c, yz_le _ _ _ _ _ _ _ _ _ _ _ _ _ _ _ _ _ _ (sums c))

pub apart-v-requires : goal.apart-v-requires
apart-v-requires c =
    let a = (goal.at.apart-v-requires c).After-all_lines-all in
    (x-le a, z-le a, zx_le _ _ _ _ _ _ _ _ _ _ _ _ _ _ _ _ _ _ (sums a))

pub apart-w-requires : goal.apart-w-requires
apart-w-requires c =
    let a = (goal.at.apart-w-requires c).After-all_lines-all in
    (x-le a, y-le a, xy_le _ _ _ _ _ _ _ _ _ _ _ _ _ _ _ _ _ _ (sums a))

pub three_products-squares-requires : goal.three_products-squares-requires
three_products-squares-requires c =
    let a = (goal.at.three_products-squares-requires c).After-all_lines-all in record {
      sums_low = (
        omega (arith, (sums a).first.squares_le),
        omega (arith, (sums a).second.squares_le),
        omega (arith, (sums a).third.squares_le),
      );
      cells_low = (u-le c, v-le c, w-le c);
    }

pub three_products-sums-requires : goal.three_products-sums-requires
three_products-sums-requires c =
    let b = (goal.at.three_products-sums-requires c).After-apart-w in
    let a = (goal.at.three_products-sums-requires c).After-all_lines-all in record {
      sums_low = (omega (arith, x-le a), omega (arith, y-le a), omega (arith, z-le a));
      cells_low = (u-le b, v-le b, w-le b);
    }

pub three_products-beside-requires : goal.three_products-beside-requires
three_products-beside-requires c =
    let a = (goal.at.three_products-beside-requires c).After-all_lines-all in record {
      sums_low = (
        omega (arith, (sums a).first.beside_le),
        omega (arith, (sums a).third.beside_le),
        omega (arith, (sums a).second.beside_le),
      );
      cells_low = (omega (arith, z-le a), omega (arith, y-le a), omega (arith, x-le a));
    }

pub three_products-weighed-requires : goal.three_products-weighed-requires
three_products-weighed-requires c =
    let a = (goal.at.three_products-weighed-requires c).After-all_lines-all in record {
      sums_low = (
        omega (arith, (sums a).first.weighed_le),
        omega (arith, (sums a).third.weighed_le),
        omega (arith, (sums a).second.weighed_le),
      );
      cells_low = (omega (arith, z-le a), omega (arith, y-le a), omega (arith, x-le a));
    }

pub overflow_add-u : goal.overflow_add-u
overflow_add-u c = omega (arith, c.apart-u.ensures.1, c.apart-v.ensures.1)

pub overflow_add-u-2 : goal.overflow_add-u-2
overflow_add-u-2 c = omega (arith, c.apart-u.ensures.1, c.apart-w.ensures.1)

pub overflow_add-v : goal.overflow_add-v
overflow_add-v c = omega (arith, c.apart-v.ensures.1, c.apart-w.ensures.1)

pub three_products-hooks-requires : goal.three_products-hooks-requires
three_products-hooks-requires c =
    let a = (goal.at.three_products-hooks-requires c).After-all_lines-all in record {
      sums_low = (
        omega (arith, (sums a).first.beside_le),
        omega (arith, (sums a).third.beside_le),
        omega (arith, (sums a).second.beside_le),
      );
      cells_low = (
        omega (arith, c.apart-u.ensures.1, c.apart-v.ensures.1),
        omega (arith, c.apart-u.ensures.1, c.apart-w.ensures.1),
        omega (arith, c.apart-v.ensures.1, c.apart-w.ensures.1),
      );
    }

-- ---- the sums

pub overflow_add-result : goal.overflow_add-result
overflow_add-result c = omega (arith, c.three_products-beside.ensures.1, c.all_lines-all.ensures.3)

pub overflow_mul-result : goal.overflow_mul-result
overflow_mul-result c = omega (arith, c.three_products-beside.ensures.1, c.all_lines-all.ensures.3)

pub overflow_add-result-2 : goal.overflow_add-result-2
overflow_add-result-2 c = omega (arith, c.three_products-squares.ensures.1, c.three_products-beside.ensures.1, c.all_lines-all.ensures.3)

pub overflow_sub-result : goal.overflow_sub-result
overflow_sub-result c = omega (arith, pairs (goal.at.overflow_sub-result c).After-three_products-hooks)

pub overflow_sub-result-2 : goal.overflow_sub-result-2
overflow_sub-result-2 c = omega (arith, pairs (goal.at.overflow_sub-result-2 c).After-three_products-hooks)

pub overflow_mul-result-2 : goal.overflow_mul-result-2
overflow_mul-result-2 c = omega (arith, c.all_lines-all.ensures.2)

pub overflow_sub-result-3 : goal.overflow_sub-result-3
overflow_sub-result-3 c = omega (arith, pairs (goal.at.overflow_sub-result-3 c).After-three_products-hooks)

pub overflow_mul-result-3 : goal.overflow_mul-result-3
overflow_mul-result-3 c = omega (arith, c.all_lines-all.ensures.3)

pub overflow_add-result-3 : goal.overflow_add-result-3
overflow_add-result-3 c = omega (arith, c.three_products-hooks.ensures.1, c.all_lines-all.ensures.3)

pub overflow_sub-result-4 : goal.overflow_sub-result-4
overflow_sub-result-4 c = omega (arith, hooks (goal.at.overflow_sub-result-4 c).After-three_products-hooks)

pub overflow_add-result-4 : goal.overflow_add-result-4
overflow_add-result-4 c =
    let a = (goal.at.overflow_add-result-4 c).After-all_lines-all in
    omega (arith, x-le a, y-le a)

pub overflow_add-result-5 : goal.overflow_add-result-5
overflow_add-result-5 c =
    let a = (goal.at.overflow_add-result-5 c).After-all_lines-all in
    omega (arith, x-le a, y-le a, z-le a)

pub overflow_mul-result-4 : goal.overflow_mul-result-4
overflow_mul-result-4 c = omega (arith, all-le (goal.at.overflow_mul-result-4 c).After-all_lines-all)

pub overflow_mul-result-5 : goal.overflow_mul-result-5
overflow_mul-result-5 c = omega (arith, all-le (goal.at.overflow_mul-result-5 c).After-all_lines-all)

pub overflow_sub-result-5 : goal.overflow_sub-result-5
overflow_sub-result-5 c = omega (arith, hooks (goal.at.overflow_sub-result-5 c).After-three_products-hooks)

pub returns : goal.returns
returns c =
    let p = (goal.at.returns c).After-three_products-hooks in
    (omega (arith, pairs p), omega (arith, hooks p))
