-- Work cells that are cleared (docs/SPECIFICATION.md, 'Work cells').
-- Assumes nothing.
use Rattle.std.specs.Prelude.{true, false, List, ℕ, ltb, length}
use Rattle.sums.specs.Lists.{in_front}

-- zeros in the first k cells, if there are so many; later cells stay
unfoldable pub zeroed : ℕ → List ℕ → List ℕ
zeroed k work = elim (ltb (length work) k) [ true ↦ work | false ↦ in_front k (λ c. 0) work ]
