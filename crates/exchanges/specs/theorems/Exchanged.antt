-- A shape with the labels x and y exchanged, and the sets of four whose topologies change by that.
-- Assumes nothing.
use Rattle.std.specs.Prelude.{ℕ, ◌*◌}
use Rattle.sums.specs.theorems.BitLaws.{ne}
use Rattle.shapes.specs.theorems.Shape.{Shape}
use Rattle.shapes.proofs.theorems.Topologies.{topology_in}

-- 1 if the four are different, and their topologies in two shapes are
unfoldable pub differ : {n : ℕ} → Shape n → Shape n → ℕ → ℕ → ℕ → ℕ → ℕ
differ t u a b c d =
    ne a b * (ne a c * (ne a d * (ne b c * (ne b d * ne c d)))) * ne (topology_in t a b c d) (topology_in u a b c d)
