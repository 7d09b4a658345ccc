-- The exchanged tree as a table. Where label 0 keeps its place it is the table with two label words exchanged; where label 0 is
-- moved it is the table re-rooted at the other tip. The distance of an exchange is the quartet distance to it.
-- Assumes nothing.
use Rattle.std.specs.Prelude.{◌≡◌}
use Prim.Native.Nat.{ℕ, ◌<◌}
use Rattle.tree_check.specs.Table.{Table, tips, nodes, parents, label}
use Rattle.trees.specs.Topology.{butterfly}
use Rattle.exchanges.specs.Exchanges.{exchanged_butterfly}
use Rattle.sums.specs.Swaps.{swapped}
use Rattle.rerooting.specs.Rerooted.{rerooted}
use Rattle.rerooting.specs.theorems.RerootedParts as RerootedParts

-- u has the butterflies of t with the labels x and y exchanged
pub record IsExchanged (t u : Table) (x y : ℕ) : Type 0 where
  pub same_tips : tips u ≡ tips t
  pub butterflies : (a b c d : ℕ) → a < tips t → b < tips t → c < tips t → d < tips t
      → exchanged_butterfly t x y a b c d ≡ butterfly u a b c d

pub record Relabelled (t u : Table) (x y : ℕ) : Type 0 where
  pub same_tips : tips t ≡ tips u
  pub same_nodes : nodes t ≡ nodes u
  pub same_parents : parents t ≡ parents u
  pub labels : (i : ℕ) → i < nodes t → label u i ≡ swapped x y (label t i)

-- a table of the tree with x and y exchanged
unfoldable pub exchanged_tree : Table → ℕ → ℕ → Table
exchanged_tree t x y = rerooted (rerooted (rerooted t x) y) x
