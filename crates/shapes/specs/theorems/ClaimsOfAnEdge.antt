-- How many claims a directed edge is in.
-- Assumes nothing.
use Rattle.std.specs.Prelude.{◌||◌, ℕ, suc, eqb}
use Rattle.sums.specs.Counts.{count}

-- how many of the edges 1 to k have the node v at one end
unfoldable pub degree : (ℕ → ℕ) → ℕ → ℕ → ℕ
degree up k v = count k (λ j. eqb (suc j) v || eqb (up (suc j)) v)
