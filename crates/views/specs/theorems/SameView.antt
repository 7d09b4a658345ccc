-- When a viewer is told the same of two file pairs, and what there is to see in them (docs/SPECIFICATION.md, 'What a viewer can
-- tell').
-- Assumes nothing.
use Rattle.std.specs.Prelude.{◌≡◌, List, ℕ, ◌<◌, T}
use Rattle.tree_check.specs.Table.{Table}
use Rattle.trees.specs.Topology.{topology}
use Rattle.levels.specs.Levels.{is_visible}
use Rattle.levels.specs.ViewTopology.{view_topology}
use Rattle.views.specs.View.{view_answer}
use Rattle.views.specs.theorems.ViewCheck.{LevelledPair}

-- what a viewer's calls are made with: the two tables, the levels, the viewer's level, and how many cells are lent
pub record Inputs : Type 0 where
  pub first : Table
  pub second : Table
  pub levels : List ℕ
  pub viewer : ℕ
  pub cells : ℕ

-- the tables are trees with one n, the levels pass 37, and the work is long enough
abbrev pub Accepted : Inputs → Type 0
Accepted k = LevelledPair k.first k.second k.levels k.viewer k.cells

abbrev pub Sees : Inputs → ℕ → Type 0
Sees k x = T (is_visible k.levels k.viewer x)

-- a set of four visible labels
pub record SeesFour (k : Inputs) (a b c d : ℕ) : Type 0 where
  pub rising : (a < b) × (b < c) × (c < d)
  pub all : Sees k a × Sees k b × Sees k c × Sees k d

-- the visible labels are the same, and each set of four of them has the same topology in the two first trees, and in the two
-- second ones; n, m, the hidden labels, the levels, the viewers and the cells are free
pub record SameView (k k' : Inputs) : Type 0 where
  pub labels : (x : ℕ) → is_visible k.levels k.viewer x ≡ is_visible k'.levels k'.viewer x
  pub first : (a b c d : ℕ) → SeesFour k a b c d → topology k.first a b c d ≡ topology k'.first a b c d
  pub second : (a b c d : ℕ) → SeesFour k a b c d → topology k.second a b c d ≡ topology k'.second a b c d

-- a viewer is told the same by each call, whatever four words are asked about
pub record ToldTheSame (k k' : Inputs) : Type 0 where
  pub view : view_answer k.first k.second k.levels k.viewer k.cells
      ≡ view_answer k'.first k'.second k'.levels k'.viewer k'.cells
  pub topology_first : (a b c d : ℕ) → view_topology k.first k.levels k.viewer a b c d
      ≡ view_topology k'.first k'.levels k'.viewer a b c d
  pub topology_second : (a b c d : ℕ) → view_topology k.second k.levels k.viewer a b c d
      ≡ view_topology k'.second k'.levels k'.viewer a b c d
