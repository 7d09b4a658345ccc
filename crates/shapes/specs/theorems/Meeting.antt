-- Four nodes that no edge parts two and two: their paths meet at one node, the centre of three of them.
-- Assumes nothing.
use Rattle.std.specs.Prelude.{ℕ}
use Rattle.shapes.specs.theorems.PathLaws.{OnPath}

pub record OnSix (up : ℕ → ℕ) (k v a b c d : ℕ) : Type 0 where
  pub ab : OnPath up k v a b
  pub ac : OnPath up k v a c
  pub bc : OnPath up k v b c
  pub ad : OnPath up k v a d
  pub bd : OnPath up k v b d
  pub cd : OnPath up k v c d
