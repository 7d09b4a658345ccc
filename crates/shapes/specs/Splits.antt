-- Splits. A tree is read by its sides alone: `b i x` says that the label x lies beyond edge i.
-- Assumes nothing.
use Rattle.std.specs.Prelude.{◌≡◌, Bool, not, ◌&&◌, ◌||◌, ℕ, suc, ◌≤◌, ◌<◌, leb}
use Rattle.std.specs.Bool.{beq}
use Rattle.sums.specs.Tests.{some, every}
use Rattle.sums.specs.Counts.{count, Twice}

abbrev pub Sides : Type 0
Sides = ℕ → ℕ → Bool

-- ---- executable, for n labels; the edges are 1 to k in the one tree, and 1 to l in the other

-- an edge with two tips or more on each side
unfoldable pub is_split : ℕ → Sides → ℕ → Bool
is_split n b i = leb 2 (count n (b i)) && leb 2 (count n (λ x. not (b i x)))

-- edge i of the one tree and edge j of the other have the same two tip sets
unfoldable pub same_sides : ℕ → Sides → Sides → ℕ → ℕ → Bool
same_sides n b c i j = every n (λ x. beq (b i x) (c j x)) || every n (λ x. beq (b i x) (not (c j x)))

-- the two tip sets of edge i also occur in the other tree
unfoldable pub occurs : ℕ → Sides → ℕ → Sides → ℕ → Bool
occurs n b l c i = some l (λ j. same_sides n b c i (suc j))

-- edge i + 1 is a split, and no edge before it has its two tip sets
unfoldable pub is_new_split : ℕ → Sides → ℕ → Bool
is_new_split n b i = is_split n b (suc i) && not (occurs n b i b (suc i))

-- how many splits a tree has: different pairs of tip sets, each once
unfoldable pub splits_of : ℕ → ℕ → Sides → ℕ
splits_of n k b = count k (is_new_split n b)

-- how many of them the other tree has too
unfoldable pub common_of : ℕ → ℕ → Sides → ℕ → Sides → ℕ
common_of n k b l c = count k (λ i. is_new_split n b i && occurs n b l c (suc i))

-- ---- in ordinary mathematics

pub record Split (n k : ℕ) (b : Sides) (i : ℕ) : Type 0 where
  pub above : 1 ≤ i
  pub edge : i ≤ k
  -- two different labels beyond the edge, and two on the other side
  pub beyond : Twice n (b i)
  pub here : Twice n (λ x. not (b i x))

pub data SameSides (n : ℕ) (b c : Sides) (i j : ℕ) : Type 0 where
  same : ((x : ℕ) → x < n → b i x ≡ c j x) → SameSides n b c i j
  turned : ((x : ℕ) → x < n → b i x ≡ not (c j x)) → SameSides n b c i j

abbrev pub Occurs : ℕ → Sides → ℕ → Sides → ℕ → Type 0
Occurs n b l c i = (j : ℕ) × Split n l c j × SameSides n b c i j

abbrev pub AllOccur : ℕ → ℕ → Sides → ℕ → Sides → Type 0
AllOccur n k b l c = (i : ℕ) → Split n k b i → Occurs n b l c i

pub record SameSplits (n k : ℕ) (b : Sides) (l : ℕ) (c : Sides) : Type 0 where
  pub there : AllOccur n k b l c
  pub back : AllOccur n l c k b
