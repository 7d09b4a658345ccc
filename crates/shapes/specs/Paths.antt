-- Paths: the nodes between two nodes. The nodes behind a directed edge into v are a subtree at v.
-- Assumes nothing.
use Rattle.std.specs.Prelude.{Bool, not, ◌&&◌, ℕ, ◌*◌, eqb}
use Rattle.sums.specs.Tests.{every}
use Rattle.shapes.specs.Directions.{head, behind}

-- the node v is on the path between the nodes a and b: no subtree at v holds both (codes of k edges)
unfoldable pub on_path : (ℕ → ℕ) → ℕ → ℕ → ℕ → ℕ → Bool
on_path up k v a b = every (2 * k) (λ c. not (eqb (head up c) v && behind up c a && behind up c b))
