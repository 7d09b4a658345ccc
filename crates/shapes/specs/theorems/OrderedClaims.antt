-- Sums over ordered claims: over all triples of different codes into one node.
-- Assumes nothing.
use Prim.Native.Nat.{ℕ, ◌*◌}
use Rattle.sums.specs.Sum.{sum}
use Rattle.sums.specs.Bits.{is}
use Rattle.sums.specs.theorems.BitLaws.{ne}
use Rattle.shapes.specs.Directions.{head}
use Rattle.shapes.specs.theorems.DirectionLaws.{into}
use Rattle.shapes.specs.theorems.Triples.{triples}

-- 1 if e, f and g are different codes into one node
abbrev pub ordered_weight : (ℕ → ℕ) → ℕ → ℕ → ℕ → ℕ
ordered_weight up e f g = ne f g * ((ne e f * is (head up e) (head up f)) * (ne e g * is (head up e) (head up g)))

-- the sum of F over the triples of different codes into one node: each claim once with f < g, once with g < f
unfoldable pub sum_ordered : (ℕ → ℕ) → ℕ → (ℕ → ℕ → ℕ → ℕ) → ℕ
sum_ordered up codes F = sum codes (λ e. sum codes (λ f. sum codes (λ g. ordered_weight up e f g * F e f g)))
