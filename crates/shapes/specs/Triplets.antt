-- Three nodes of a rooted tree (docs/SPECIFICATION.md, 'Triplets').
-- Assumes nothing.
use Rattle.std.specs.Prelude.{Bool, true, false, not, ◌&&◌, ℕ, zero, suc}
use Rattle.shapes.specs.Ancestors.{anc}

-- the last index below k that passes the test; 0 if none does
unfoldable pub last_below : ℕ → (ℕ → Bool) → ℕ
last_below zero q = 0
last_below (suc k) q = elim (q k) [ true ↦ k | false ↦ last_below k q ]

-- the lowest common ancestor of the nodes a and b: of all that are at or above both the one with the highest number, as a
-- child has a higher number than its parent
unfoldable pub lowest : (ℕ → ℕ) → ℕ → ℕ → ℕ
lowest up a b = last_below (suc a) (λ i. anc up i a && anc up i b)

-- a and b are resolved against c: their lowest common ancestor is not an ancestor of c
unfoldable pub resolved : (ℕ → ℕ) → ℕ → ℕ → ℕ → Bool
resolved up a b c = not (anc up (lowest up a b) c)
