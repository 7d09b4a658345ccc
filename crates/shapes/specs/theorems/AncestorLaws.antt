-- Trees given by parents, and the laws of ancestors in them.
-- Assumes nothing.
use Rattle.std.specs.Prelude.{◌≡◌}
use Prim.Native.Nat.{ℕ, suc, ◌≤◌}

pub record Rooted (up : ℕ → ℕ) : Type 0 where
  pub root : up 0 ≡ 0
  pub falls : (w : ℕ) → up (suc w) ≤ w
