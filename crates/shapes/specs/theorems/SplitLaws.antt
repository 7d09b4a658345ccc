-- What the tests of splits say in ordinary mathematics, and edges with the same tip sets.
-- Assumes nothing.
use Rattle.std.specs.Prelude.{◌≡◌, Bool, not, ◌&&◌, ◌||◌, ℕ, suc, ◌+◌, ◌*◌, ◌-◌, ◌<◌}
use Rattle.sums.specs.Tests.{every}
use Rattle.shapes.specs.Splits.{Sides, is_split, occurs, splits_of, common_of}
use Rattle.shapes.specs.Splits.{Split, SameSides, same}

-- the Robinson-Foulds distance, first + second − 2 · common
unfoldable pub robinson_foulds_of : ℕ → ℕ → Sides → ℕ → Sides → ℕ
robinson_foulds_of n k b l c = splits_of n k b + splits_of n l c - 2 * common_of n k b l c

-- the two tip sets of each split also occur in the other tree, where they are those of a split
unfoldable pub all_occur : ℕ → ℕ → Sides → ℕ → Sides → Bool
all_occur n k b l c = every k (λ i. not (is_split n b (suc i)) || occurs n b l c (suc i))

-- for each split of either tree, the other has one with the same tip sets
unfoldable pub same_splits_of : ℕ → ℕ → Sides → ℕ → Sides → Bool
same_splits_of n k b l c = all_occur n k b l c && all_occur n l c k b

-- edge i + 1 is the first with its two tip sets
pub record NewSplit (n k : ℕ) (b : Sides) (i : ℕ) : Type 0 where
  pub split : Split n k b (suc i)
  pub new : (j : ℕ) → j < i → SameSides n b b (suc i) (suc j) → ⊥

-- different splits of a tree have different tip sets
abbrev pub Distinct : ℕ → ℕ → Sides → Type 0
Distinct n k b = (i j : ℕ) → Split n k b i → Split n k b j → SameSides n b b i j → i ≡ j
