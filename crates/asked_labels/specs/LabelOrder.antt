-- The order of refusal of labels that are asked about (docs/SPECIFICATION.md, 'The numbers', 'The orders').
-- Assumes nothing.
use Rattle.std.specs.Prelude.{Bool, List, [], ◌∷◌, ◌++◌, ℕ, eqb, leb, length}
use Rattle.sums.specs.Tests.{some}
use Rattle.tree_check.specs.Table.{Table, word, tips}
use Rattle.tree_check.specs.Refusals.{Rule}
use Rattle.tree_check.specs.TreeOrder.{tree_order}

-- 10: a label that is asked about is n or more
unfoldable pub too_large : ℕ → List ℕ → Bool
too_large n xs = some (length xs) (λ i. leb n (word xs i))

-- 11: two of the labels that are asked about are equal
unfoldable pub two_equal : List ℕ → Bool
two_equal xs = some (length xs) (λ i. some i (λ j. eqb (word xs j) (word xs i)))

-- 10 and 11
unfoldable pub asked_order : ℕ → List ℕ → List Rule
asked_order n xs = (10, too_large n xs) ∷ (11, two_equal xs) ∷ []

-- the table's order, then 10 and 11
unfoldable pub label_order : Table → List ℕ → List Rule
label_order t xs = tree_order t ++ asked_order (tips t) xs
