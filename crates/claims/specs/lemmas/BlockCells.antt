-- The terms of a block's cells, from slices that hold the sums of its rows and columns.
-- Assumes nothing.
use Rattle.std.specs.Prelude.{◌≡◌, refl, List, ℕ, zero, suc, ◌+◌, ◌*◌, ◌-◌, ◌≤◌, ◌<◌, length}
use Rattle.std.proofs.Common.{◌∙◌, ap, ap₂, suc-mul, mul-le-mul_right}
use native.Mathlib.Omega.{arith}
use Rattle.table_words.specs.Sizes.{tips_most}
use Rattle.sums.specs.Sum.{sum}
use Rattle.sums.specs.theorems.SumLaws.{sum_ext, sum_cong}
use Rattle.shapes.specs.Claims.{choose2}
use Rattle.tree_check.specs.Table.{word}
use Rattle.node_pairs.specs.theorems.Aggregates.{row_sum, column_sum, whole, squares, row_squares, column_squares}
use Rattle.node_pairs.specs.theorems.Aggregates.{row_without, column_without, down, along, other_cells, rest_cell_lem}
use Rattle.node_pairs.specs.theorems.CellForms.{pairs_off}
use Rattle.node_pairs.specs.theorems.PairsOff.{pairs_off_cell}
use Rattle.sums.specs.theorems.Products.{product_le}
use Rattle.claims.specs.lemmas.Block.{Block, block_cell}
use Rattle.claims.specs.lemmas.CellLines.{Line, LowNumbers, line_cell, squared}
use Rattle.claims.specs.lemmas.MatrixBounds.{cell_row_le, cell_column_le, row_without_is, column_without_is}
use Rattle.claims.specs.lemmas.MatrixBounds.{row_le, column_le, squares_le, row_squares-le, column_squares-le}
use Rattle.claims.specs.lemmas.MatrixBounds.{down_le, along_le}
use Rattle.claims.specs.lemmas.CellTerms.{TermRoom, CellGives}
use Rattle.claims.specs.lemmas.CellSums.{pairs_term, plus_term, minus_term, Terms}

-- four slices hold the sums of a block: of its rows, of its columns, down its columns and along its rows
pub record Summed (cells sums totals downs alongs : List ℕ) (d d' : ℕ) : Type 0 where
  pub block : Block cells d d'
  pub sums_long : d ≤ length sums
  pub totals_long : d' ≤ length totals
  pub downs_long : d' ≤ length downs
  pub alongs_long : d ≤ length alongs
  pub sums_are : (i : ℕ) → i < d → word sums i ≡ row_sum d' (block_cell cells d') i
  pub totals_are : (j : ℕ) → j < d' → word totals j ≡ column_sum d (block_cell cells d') j
  pub downs_are : (j : ℕ) → j < d' → word downs j ≡ down d d' (block_cell cells d') j
  pub alongs_are : (i : ℕ) → i < d → word alongs i ≡ along d d' (block_cell cells d') i

-- the sums over a whole block: of its cells, of their squares, and of the squares of its rows and columns
pub record Overall (cells : List ℕ) (d d' all squared base : ℕ) : Type 0 where
  pub all_is : all ≡ whole d d' (block_cell cells d')
  pub squared_is : squared ≡ squares d d' (block_cell cells d')
  pub base_is : base ≡ row_squares d d' (block_cell cells d') + column_squares d d' (block_cell cells d')

-- row i ends before d rows end
pub row_inside : (i d d' : ℕ) → i < d → i * d' + d' ≤ d * d'
row_inside i d d' l = rw (← suc-mul) (mul-le-mul_right d' l)

-- ---- one cell

module _ (cells sums totals downs alongs : List ℕ) (d d' : ℕ) (g : Summed cells sums totals downs alongs d d')
    (i j : ℕ) (li : i < d) (lj : j < d') (t all squared base : ℕ) (t_is : t ≡ block_cell cells d' i j)
    (o : Overall cells d d' all squared base) where
  abbrev I : ℕ → ℕ → ℕ
  I = block_cell cells d'

  abbrev low : whole d d' I ≤ tips_most
  low = g.block.whole_few

  -- what the code subtracts: the cells in neither line, ..
  rest_at : all + t - word sums i - word totals j ≡ other_cells d d' I i j
  rest_at = omega (arith, t_is, o.all_is, g.sums_are i li, g.totals_are j lj, rest_cell_lem d d' I i j li lj)

  -- .. the rest of the row ..
  row_at : word sums i - t ≡ row_without d' I i j
  row_at = omega (arith, t_is, g.sums_are i li, row_without_is d d' I i j lj)

  -- .. and the rest of the column
  column_at : word totals j - t ≡ column_without d I i j
  column_at = omega (arith, t_is, g.totals_are j lj, column_without_is d d' I i j li)

  -- what stands before the base is taken off
  pairs_at : (all + t - word sums i - word totals j) * (all + t - word sums i - word totals j) + t * t
      + (word sums i - t) * (word sums i - t) + (word totals j - t) * (word totals j - t)
      + (squared + 2 * (word downs j + word alongs i))
      ≡ pairs_off d d' I i j + base
  pairs_at = rw (
    rest_at,
    row_at,
    column_at,
    t_is,
    o.squared_is,
    g.downs_are j lj,
    g.alongs_are i li,
    o.base_is,
  ) (omega (arith, pairs_off_cell d d' I i j li lj))

  -- the numbers at a cell that is not empty are low
  pub cell_room : 1 ≤ t
      → TermRoom t (word sums i) (word totals j) (word downs j) (word alongs i) all squared base
  cell_room one = record {
    some = one;
    in_row = omega (arith, t_is, g.sums_are i li, cell_row_le d d' I i j lj);
    in_column = omega (arith, t_is, g.totals_are j lj, cell_column_le d d' I i j li);
    row_low = omega (arith, g.sums_are i li, row_le d d' I low i li);
    column_low = omega (arith, g.totals_are j lj, column_le d d' I low j lj);
    whole_low = omega (arith, o.all_is, low);
    overlap = omega (arith, t_is, o.all_is, g.sums_are i li, g.totals_are j lj, rest_cell_lem d d' I i j li lj);
    down_low = omega (arith, g.downs_are j lj, down_le d d' I low j lj);
    along_low = omega (arith, g.alongs_are i li, along_le d d' I low i li);
    squares_low = omega (arith, o.squared_is, squares_le d d' I low);
    base_low = rw pairs_at (omega arith);
  }

  -- what they give are the terms of the cell
  pub cell_gives : (a b c : ℕ)
      → CellGives t (word sums i - t) (word totals j - t) (all + t - word sums i - word totals j)
      (word downs j) (word alongs i) squared base a b c
      → Terms d d' I i j a b c
  cell_gives a b c q = record {
    pairs_is =
        q.pairs_is
        ∙ ap₂ (λ (x y : ℕ). choose2 x * (y - base)) t_is pairs_at
        ∙ ap (λ (z : ℕ). choose2 (I i j) * z) (cancel (pairs_off d d' I i j) base)
        ∙ unfold pairs_term in refl;
    plus_is = q.plus_is ∙ rw (rest_at, row_at, column_at, t_is) (unfold plus_term in refl);
    minus_is =
        q.minus_is
        ∙ rw (row_at, column_at, t_is, g.downs_are j lj, g.alongs_are i li) (unfold minus_term in refl);
    pairs_le = q.pairs_le;
    plus_le = q.plus_le;
    minus_le = q.minus_le;
  }
    where
      cancel : (p b : ℕ) → p + b - b ≡ p
      cancel p b = omega arith

-- ---- the whole block

-- a sum in two parts
sum-append : (a b : ℕ) (f : ℕ → ℕ) → sum (a + b) f ≡ sum a f + sum b (λ j. f (a + j))
unfolding sum
sum-append a zero f = ap (λ (z : ℕ). sum z f) (none a) ∙ omega arith
  where
    none : (a : ℕ) → a + 0 ≡ a
    none a = omega arith
sum-append a (suc b) f = ap (λ (z : ℕ). sum z f) (step a b) ∙ omega (arith, sum-append a b f)
  where
    step : (a b : ℕ) → a + suc b ≡ suc (a + b)
    step a b = omega arith

-- a sum over all cells, row by row
sum_rows : (d d' : ℕ) (f : ℕ → ℕ) → sum (d * d') f ≡ sum d (λ i. sum d' (λ j. f (i * d' + j)))
unfolding sum
sum_rows zero d' f = ap (λ (z : ℕ). sum z f) (none d')
  where
    none : (a : ℕ) → 0 * a ≡ 0
    none a = omega arith
sum_rows (suc d) d' f =
    ap (λ (z : ℕ). sum z f) (suc-mul d d')
    ∙ sum-append (d * d') d' f
    ∙ ap (λ (z : ℕ). z + sum d' (λ j. f (d * d' + j))) (sum_rows d d' f)

module _ (cells sums totals downs alongs : List ℕ) (d d' : ℕ) (g : Summed cells sums totals downs alongs d d') where
  -- the sums of the rows are low, ..
  pub sums_low : LowNumbers sums d
  sums_low = record {
    inside = g.sums_long;
    few = g.block.rows_few;
    low = λ i l. omega (arith, g.sums_are i l, row_le d d' (block_cell cells d') g.block.whole_few i l);
  }

  -- .. and of the columns
  pub totals_low : LowNumbers totals d'
  totals_low = record {
    inside = g.totals_long;
    few = g.block.columns_few;
    low = λ j l. omega (arith, g.totals_are j l, column_le d d' (block_cell cells d') g.block.whole_few j l);
  }

  -- all cells are one line
  pub whole_line : Line (length cells) 0 1 (d * d')
  whole_line = record {
    inside = λ a l. omega (arith, g.block.inside);
    len_le = product_le tips_most tips_most d d' g.block.rows_few g.block.columns_few;
    step_le = omega arith;
    at_le = omega arith;
  }

  -- the squares of the rows and of the columns are low
  pub base_le : row_squares d d' (block_cell cells d') + column_squares d d' (block_cell cells d') ≤ 131072
  base_le = omega (
    arith,
    row_squares-le d d' (block_cell cells d') g.block.whole_few,
    column_squares-le d d' (block_cell cells d') g.block.whole_few,
  )

  -- .. and are what two loops find
  base_at : (r c : ℕ) → r ≡ sum d (squared (word sums)) → c ≡ sum d' (squared (word totals))
      → r + c ≡ row_squares d d' (block_cell cells d') + column_squares d d' (block_cell cells d')
  base_at r c p q = ap₂ (λ (x y : ℕ). x + y)
      (p ∙ sum_ext d _ _ (λ i l. ap (λ (z : ℕ). z * z) (g.sums_are i l)))
      (q ∙ sum_ext d' _ _ (λ j l. ap (λ (z : ℕ). z * z) (g.totals_are j l)))

  -- the squares of all cells, as one loop finds them
  squares_at : sum (d * d') (squared (line_cell cells 0 1)) ≡ squares d d' (block_cell cells d')
  squares_at =
      sum_rows d d' (squared (line_cell cells 0 1))
      ∙ sum_cong d (λ i. sum_cong d' (λ j. ap (λ (z : ℕ). word cells z * word cells z) (place (i * d') j)))
    where
      place : (a j : ℕ) → 0 + (a + j) * 1 ≡ a + j
      place a j = omega arith

  -- the three sums, as loops find them
  pub overall : (all s r c : ℕ) → all ≡ sum d (word sums) → s ≡ sum (d * d') (squared (line_cell cells 0 1))
      → r ≡ sum d (squared (word sums)) → c ≡ sum d' (squared (word totals))
      → Overall cells d d' all s (r + c)
  overall all s r c p q x y = record {
    all_is = p ∙ sum_ext d _ _ g.sums_are;
    squared_is = q ∙ squares_at;
    base_is = base_at r c x y;
  }
