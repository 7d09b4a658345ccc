-- Cells that stay from one on, over a call and over several, until the first are cleared.
-- Assumes nothing.
use Rattle.std.specs.Prelude.{◌≡◌, List, ℕ, ◌≤◌, length}
use Rattle.tree_check.specs.Table.{word}

-- as many cells, and those from k on as they were
pub record SameFrom (k : ℕ) (old new : List ℕ) : Type 0 where
  pub long : length new ≡ length old
  pub tail : (c : ℕ) → k ≤ c → word new c ≡ word old c
