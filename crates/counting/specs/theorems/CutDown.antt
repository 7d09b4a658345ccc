-- A tree cut down to some of its labels: a table on as many tips whose splits are those of the labels, by rank. Its topologies
-- are those of the labels of these ranks.
-- Assumes nothing.
use Rattle.std.specs.Prelude.{◌≡◌, ℕ, ◌-◌}
use Rattle.shapes.specs.Splits.{SameSplits}
use Rattle.trees.specs.declared.quartet.Topology.{Topology}
use Rattle.trees.specs.declared.quartet.Topology.TheVariants.{Butterfly, Star}
use Rattle.trees.specs.Topology.{topology}
use Rattle.tree_check.specs.Table.{Table, tips, nodes, beyond}
use Rattle.tree_check.specs.IsTree.{IsTree}
use Rattle.counting.specs.Labels.{Labels}
use Rattle.counting.specs.SplitCounts.{beyond_at}

-- c is t cut down to the labels l
pub record CutDown (l : Labels) (t c : Table) : Type 0 where
  pub tree : IsTree c
  pub labels : tips c ≡ l.number
  pub splits : SameSplits l.number (nodes t - 1) (beyond_at l t) (nodes c - 1) (beyond c)

-- a topology under other labels
unfoldable pub relabelled : (ℕ → ℕ) → Topology → Topology
relabelled f (Butterfly p) = Butterfly (f p)
relabelled f Star = Star
