-- Lists of a function's values, in front of the cells of another list.
-- Assumes nothing.
use Rattle.std.specs.Prelude.{List, [], ◌∷◌, ◌++◌, ℕ, zero, suc, drop}

-- f 0, f 1, .., f (k − 1)
unfoldable pub in_order : ℕ → (ℕ → ℕ) → List ℕ
in_order zero f = []
in_order (suc k) f = f 0 ∷ in_order k (λ i. f (suc i))

-- the first k cells hold these values; later cells stay
abbrev pub in_front : ℕ → (ℕ → ℕ) → List ℕ → List ℕ
in_front k f cells = in_order k f ++ drop k cells
