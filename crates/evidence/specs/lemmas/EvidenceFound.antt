-- What `evidence` answers, as its code finds it.
-- Assumes nothing.
use Rattle.std.specs.Prelude.{true, false, eqb}
use Prim.Native.Nat.{ℕ}
use Rattle.counting.specs.declared.Case.{Case}
use Rattle.counting.specs.declared.Case.TheVariants.{A, B}

-- the case of two butterflies that name the partners p and q
unfoldable pub two_butterflies : ℕ → ℕ → Case
two_butterflies p q = elim (eqb p q) [ true ↦ A | false ↦ B ]
