-- The nodes on the path between two, by the subtrees at a node.
-- Assumes nothing.
use Rattle.std.specs.Prelude.{◌≡◌, ℕ, ◌*◌, ◌<◌}
use Rattle.sums.specs.Bits.{bit}
use Rattle.shapes.specs.Directions.{head, behind}

-- `on_path` in ordinary mathematics
abbrev pub OnPath : (ℕ → ℕ) → ℕ → ℕ → ℕ → ℕ → Type 0
OnPath up k v a b =
    (c : ℕ) → c < 2 * k → head up c ≡ v → bit (behind up c a) ≡ 1 → bit (behind up c b) ≡ 1 → ⊥

-- a subtree at v holds both x and y: a code into v has them behind it
abbrev pub Together : (ℕ → ℕ) → ℕ → ℕ → ℕ → ℕ → Type 0
Together up k v x y =
    (c : ℕ) × (c < 2 * k) × (head up c ≡ v) × (bit (behind up c x) ≡ 1) × (bit (behind up c y) ≡ 1)
