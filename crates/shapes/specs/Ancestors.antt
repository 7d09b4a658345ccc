-- Nodes are numbers, and `up v` is the parent of node v: 0 has itself, and every other node a smaller one.
-- Assumes nothing.
use Rattle.std.specs.Prelude.{Bool, true, false, ℕ, zero, suc, eqb}

-- node i is v or an ancestor of v, at most k steps up
unfoldable pub anc_in : (ℕ → ℕ) → ℕ → ℕ → ℕ → Bool
anc_in up zero i v = eqb i v
anc_in up (suc k) i v = elim (eqb i v) [ true ↦ true | false ↦ anc_in up k i (up v) ]

-- node i is v or an ancestor of v: as nodes fall on the way up, v steps are enough
unfoldable pub anc : (ℕ → ℕ) → ℕ → ℕ → Bool
anc up i v = anc_in up v i v
