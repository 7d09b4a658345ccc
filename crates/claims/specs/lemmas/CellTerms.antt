-- What one cell of a matrix gives to the claim sums, from plain numbers.
-- Assumes nothing.
use Rattle.std.specs.Prelude.{◌≡◌, ℕ, ◌+◌, ◌*◌, ◌-◌, ◌≤◌}
use Rattle.table_words.specs.Sizes.{tips_most}
use Rattle.shapes.specs.Claims.{choose2}

-- a cell t of a row and a column, in a matrix with these sums: all of them low
pub record TermRoom (t row column down along whole squares base : ℕ) : Type 0 where
  pub some : 1 ≤ t
  pub in_row : t ≤ row
  pub in_column : t ≤ column
  pub row_low : row ≤ tips_most
  pub column_low : column ≤ tips_most
  pub whole_low : whole ≤ tips_most
  pub overlap : row + column ≤ whole + t
  pub down_low : down ≤ 65536
  pub along_low : along ≤ 65536
  pub squares_low : squares ≤ 65536
  pub base_low : base ≤ (whole + t - row - column) * (whole + t - row - column) + t * t
      + (row - t) * (row - t) + (column - t) * (column - t) + (squares + 2 * (down + along))

-- what the cell gives, where x and y are the rest of its row and of its column, and `rest` the cells in neither
pub record CellGives (t x y rest down along squares base pairs plus minus : ℕ) : Type 0 where
  pub pairs_is : pairs
      ≡ choose2 t * (rest * rest + t * t + x * x + y * y + (squares + 2 * (down + along)) - base)
  pub plus_is : plus ≡ t * (rest * (y * x) + t * (x * x + y * y))
  pub minus_is : minus ≡ t * (x * down + y * along)
  pub pairs_le : pairs ≤ 68719476736
  pub plus_le : plus ≤ 68719476736
  pub minus_le : minus ≤ 68719476736
