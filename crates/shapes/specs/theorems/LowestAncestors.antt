-- The lowest common ancestor of two nodes, and the one edge above it at which a third node leaves.
-- Assumes nothing.
use Rattle.std.specs.Prelude.{not, ◌&&◌, ℕ}
use Rattle.sums.specs.Bits.{bit, is}
use Rattle.shapes.specs.Ancestors.{anc}

-- 1 if v is at or below the parent of node i, and not at or below i
unfoldable pub leaves : (ℕ → ℕ) → ℕ → ℕ → ℕ
leaves up i v = bit (anc up (up i) v && not (anc up i v))
