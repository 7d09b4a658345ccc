-- What lies at or below a node, added up from the highest node down.
-- Assumes nothing.
use Rattle.std.specs.Prelude.{◌≡◌, ◌&&◌, leb}
use Prim.Native.Nat.{ℕ, ◌+◌, ◌*◌, ◌≤◌, ◌<◌}
use Rattle.std.proofs.Math.Dec.{eqb}
use Rattle.sums.specs.Sum.{sum}
use Rattle.sums.specs.Bits.{bit}
use Rattle.shapes.specs.Ancestors.{anc}

-- the sum of `f` over node v and the nodes below it, of m nodes
unfoldable pub total : (ℕ → ℕ) → ℕ → (ℕ → ℕ) → ℕ → ℕ
total up m f v = sum m (λ u. bit (anc up v u) * f u)

-- what the children of v from number i on hold
unfoldable pub late : (ℕ → ℕ) → ℕ → (ℕ → ℕ) → ℕ → ℕ → ℕ
late up m f i v = sum m (λ d. bit (leb i d && eqb (up d) v) * total up m f d)

-- the values `val` once the nodes from i on have been added to their parents, from the highest down
pub record Added (up : ℕ → ℕ) (m : ℕ) (f val : ℕ → ℕ) (i : ℕ) : Type 0 where
  pub holds : (v : ℕ) → v < m → val v ≡ f v + late up m f i v

-- the same of the nodes from k on, where the nodes below k have no values
pub record AddedFrom (k : ℕ) (up : ℕ → ℕ) (m : ℕ) (f val : ℕ → ℕ) (i : ℕ) : Type 0 where
  pub holds : (v : ℕ) → k ≤ v → v < m → val v ≡ f v + late up m f i v
