-- The parts of a printed line, and the line.
-- Assumes nothing.
use Rattle.std.specs.Prelude.{List, [], ◌∷◌, ◌++◌, ℕ}
use Rattle.listings.specs.Decimal.{decimal_of}

-- a space, then the number
unfoldable pub spaced : ℕ → List ℕ
spaced n = 32 ∷ decimal_of n

-- the numbers, each after a space
unfoldable pub spaced_all : List ℕ → List ℕ
spaced_all [] = []
spaced_all (n ∷ ns) = spaced n ++ spaced_all ns

-- the word, then the numbers, then the line end
unfoldable pub line : List ℕ → List ℕ → List ℕ
line word numbers = word ++ (spaced_all numbers ++ (10 ∷ []))
