-- A turn: two different directed edges into one node v, with x behind the first and y behind the second. Then v is on
-- the path from x to y, and what leaves the path at v is told by the numbers of labels behind the edges into v.
-- Assumes nothing.
use Rattle.std.specs.Prelude.{◌≡◌, ◌≢◌}
use Prim.Native.Nat.{ℕ, ◌*◌, ◌≤◌, ◌<◌}
use Rattle.sums.specs.Sum.{sum}
use Rattle.sums.specs.Bits.{bit, is}
use Rattle.shapes.specs.Directions.{head, behind}
use Rattle.shapes.specs.theorems.DirectionLaws.{into}
use Rattle.shapes.specs.theorems.Shape.{Shape}
use Rattle.shapes.proofs.theorems.Counting.{size_in}

-- the squares of the numbers of labels behind the directed edges into v, added up
unfoldable pub squares_into : {n : ℕ} → Shape n → ℕ → ℕ
squares_into t v = sum (2 * t.edges) (λ g. is v (head t.up g) * (size_in t g * size_in t g))

pub record Turn {n : ℕ} (t : Shape n) (p q v e f : ℕ) : Type 0 where
  pub lv : v ≤ t.edges
  pub le : e < 2 * t.edges
  pub lf : f < 2 * t.edges
  pub he : head t.up e ≡ v
  pub hf : head t.up f ≡ v
  pub pe : bit (behind t.up e p) ≡ 1
  pub qf : bit (behind t.up f q) ≡ 1
  pub ef : e ≢ f
