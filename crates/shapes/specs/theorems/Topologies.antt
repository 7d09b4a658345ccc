-- Topologies of four labels as numbers, and the five cases of two of them.
-- Assumes nothing.
use Rattle.std.specs.Prelude.{Bool, true, false, ℕ}
use Rattle.sums.specs.Bits.{is}
use Rattle.shapes.specs.theorems.PartedFours.{none, first}

-- which of three tests is the first that is passed, from 1; 0 for none
unfoldable pub first_passed : Bool → Bool → Bool → ℕ
first_passed a b c = elim a [
  | true ↦ 1
  | false ↦ elim b [ true ↦ 2 | false ↦ elim c [ true ↦ 3 | false ↦ 0 ] ]
]
