-- The centre of three nodes: the one node on all three paths between them. The node where the paths of four meet.
-- Assumes nothing.
use Rattle.std.specs.Prelude.{Bool, true, false, ◌&&◌, ℕ, zero, suc}
use Rattle.sums.specs.Tests.{first}
use Rattle.shapes.specs.Paths.{on_path}

-- v is on all three paths between three nodes
unfoldable pub on_all : (ℕ → ℕ) → ℕ → ℕ → ℕ → ℕ → ℕ → Bool
on_all up k v a b c = on_path up k v a b && on_path up k v a c && on_path up k v b c

-- the last node below m on all three paths
unfoldable pub centre_below : (ℕ → ℕ) → ℕ → ℕ → ℕ → ℕ → ℕ → ℕ
centre_below up k zero a b c = 0
centre_below up k (suc v) a b c =
    elim (on_all up k v a b c) [ true ↦ v | false ↦ centre_below up k v a b c ]

-- the centre of a, b and c, in a shape with k edges, so with the nodes 0 .. k
unfoldable pub centre_of : (ℕ → ℕ) → ℕ → ℕ → ℕ → ℕ → ℕ
centre_of up k a b c = centre_below up k (suc k) a b c

-- v is on all six paths between four nodes
unfoldable pub on_six : (ℕ → ℕ) → ℕ → ℕ → ℕ → ℕ → ℕ → ℕ → Bool
on_six up k v a b c d = on_all up k v a b c && (on_path up k v a d && on_path up k v b d && on_path up k v c d)

-- the node where all paths between a, b, c and d meet, if there is one: the first on all six
unfoldable pub meet_of : (ℕ → ℕ) → ℕ → ℕ → ℕ → ℕ → ℕ → ℕ
meet_of up k a b c d = first (suc k) (λ v. on_six up k v a b c d)
