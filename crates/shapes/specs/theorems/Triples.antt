-- Four nodes are claimed once, by one triple of codes, if an edge parts them, and never if none does.
-- Assumes nothing.
use Prim.Native.Nat.{ℕ, suc, ◌*◌}
use Rattle.sums.specs.Sum.{sum}
use Rattle.sums.specs.Bits.{bit}
use Rattle.sums.specs.theorems.Exclusion.{three_apart}
use Rattle.shapes.specs.Directions.{behind}
use Rattle.shapes.specs.theorems.DirectionLaws.{into}

-- triples of different codes into one node: a, b behind the first, c behind the second, d behind the third
unfoldable pub triples : (ℕ → ℕ) → ℕ → ℕ → ℕ → ℕ → ℕ → ℕ
triples up k a b c d = sum (suc k) (λ v.
    three_apart (2 * k) (λ e. into up v a e * bit (behind up e b)) (into up v c) (into up v d))
