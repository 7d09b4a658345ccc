-- Sums of distances, each two trees added once to both.
-- Assumes nothing.
use Rattle.std.specs.Prelude.{◌≡◌, List, ℕ, suc, ◌≤◌, ◌<◌, length}
use Rattle.sums.specs.Sum.{sum}
use Rattle.tree_check.specs.Table.{word}
use Rattle.tree_lists.specs.TreeLists.{trees_most}

-- the trees below i are summed among one another, and tree i against those below j, on both sides
pub record Sums (d : ℕ → ℕ → ℕ) (i j : ℕ) (cells : List ℕ) : Type 0 where
  pub long : length cells ≡ trees_most
  pub met : (a : ℕ) → a < j → word cells a ≡ sum (suc i) (d a)
  pub not_yet : (a : ℕ) → j ≤ a → a < i → word cells a ≡ sum i (d a)
  pub own : word cells i ≡ sum j (d i)
  pub later : (a : ℕ) → i < a → word cells a ≡ 0
