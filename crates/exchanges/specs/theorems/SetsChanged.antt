-- Which sets of four change their topology where the labels x and y are exchanged.
-- Assumes nothing.
use Prim.Native.Nat.{ℕ}
use Rattle.sums.specs.Bits.{bit}
use Rattle.shapes.specs.theorems.Shape.{Shape}
use Rattle.shapes.proofs.theorems.Shape.{butterfly_in}
use Rattle.exchanges.specs.theorems.PathOrder.{off}

-- the node where the way to the label a leaves the path from x to y
abbrev pub leaving_place : {n : ℕ} → Shape n → ℕ → ℕ → ℕ → ℕ
leaving_place t x y a = off t.up t.edges (t.node x) (t.node y) (t.node a)

-- 1 if the labels a and b hang in one subtree off the path from x to y
abbrev pub hangs : {n : ℕ} → Shape n → ℕ → ℕ → ℕ → ℕ → ℕ
hangs t x y a b = bit (butterfly_in t a b x y)
