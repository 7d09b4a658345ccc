-- The next node above that stays.
-- Assumes nothing.
use Rattle.std.proofs.Math.Path.{◌≡◌}
use Rattle.std.specs.Prelude.{◌≢◌}
use Prim.Native.Nat.{ℕ, ◌<◌}
use Rattle.std.proofs.Math.Dec.{T}
use Rattle.sums.specs.Bits.{bit, is}
use Rattle.shapes.specs.Ancestors.{anc}
use Rattle.canonical.specs.Copying.{stays}

-- o is the next node above v that stays
pub record IsOver (up : ℕ → ℕ) (m : ℕ) (node : ℕ → ℕ) (k v o : ℕ) : Type 0 where
  pub kept : T (stays up m node k o)
  pub above : bit (anc up o v) ≡ 1
  pub less : o < v
  pub next : (u : ℕ) → T (stays up m node k u) → bit (anc up u v) ≡ 1 → u ≢ v → bit (anc up u o) ≡ 1
