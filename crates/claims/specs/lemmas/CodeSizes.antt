-- The sizes of the sets of tips behind the codes into a node, read off the sizes of edges.
-- Assumes nothing.
use Rattle.std.specs.Prelude.{◌≡◌, List, length}
use Prim.Native.Nat.{ℕ, zero, suc, ◌*◌, ◌-◌, ◌≤◌, ◌<◌}
use Rattle.std.proofs.Common.{arith}
use Rattle.table_words.specs.Sizes.{tips_most}
use Rattle.table_words.specs.lemmas.Rooms.{work_room}
use Rattle.tree_check.specs.Table.{word}

-- Edge r has its size in cell r * step. The i-th code into a node belongs to edge r i: the node's own edge first, which
-- points away from tip 0, then its children's, which point towards it; n is the number of labels that are counted.
unfoldable pub code_size : List ℕ → ℕ → ℕ → (ℕ → ℕ) → ℕ → ℕ
code_size work step n r zero = n - word work (r 0 * step)
code_size work step n r (suc i) = word work (r (suc i) * step)

module _ (work : List ℕ) (step n : ℕ) (r : ℕ → ℕ) where
  pub size-first : (v : ℕ) → v ≡ n - word work (r 0 * step) → v ≡ code_size work step n r 0
  unfolding code_size
  size-first v e = e

  pub size_later : (i v : ℕ) → 1 ≤ i → v ≡ word work (r i * step) → v ≡ code_size work step n r i
  unfolding code_size
  size_later zero v l e = absurd (omega arith)
  size_later (suc i) v l e = e

-- the cell of edge r
pub record SizeCell (work : List ℕ) (n at : ℕ) : Type 0 where
  pub inside : at < length work
  pub low : at ≤ work_room
  pub most : word work at ≤ n

-- the edges of the codes into a node, and room for as many sizes in `size` cells
pub record SizesRoom (work : List ℕ) (step n : ℕ) (edges : List ℕ) (size : ℕ) : Type 0 where
  pub some : 1 ≤ length edges
  pub few : length edges ≤ tips_most
  pub inside : length edges ≤ size
  pub cell : (i : ℕ) → i < length edges → SizeCell work n (word edges i * step)
