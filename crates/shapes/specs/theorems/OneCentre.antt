-- Three nodes have one centre, and a climb leaves it where it is.
-- Assumes nothing.
use Rattle.std.specs.Prelude.{ℕ}
use Rattle.shapes.specs.theorems.PathLaws.{OnPath}

-- `on_all` in ordinary mathematics
abbrev pub OnAll : (ℕ → ℕ) → ℕ → ℕ → ℕ → ℕ → ℕ → Type 0
OnAll up k v a b c = OnPath up k v a b × OnPath up k v a c × OnPath up k v b c
