-- The codes that lead into a node: how many there are, and each of them.
-- Assumes nothing.
use Rattle.std.specs.Prelude.{true, false, ◌&&◌, ℕ, zero, suc, eqb}
use Rattle.sums.specs.Sum.{sum}
use Rattle.sums.specs.Bits.{is}

-- how many codes below K have the head v
unfoldable pub degree_of : ℕ → (ℕ → ℕ) → ℕ → ℕ
degree_of K h v = sum K (λ e. is v (h e))

-- the code below K that has the head v and i such codes below it
unfoldable pub code_at : ℕ → (ℕ → ℕ) → ℕ → ℕ → ℕ
code_at zero h v i = 0
code_at (suc K) h v i = elim (eqb v (h K) && eqb i (degree_of K h v)) [ true ↦ K | false ↦ code_at K h v i ]
