-- The canonical copy of a tree table, rule by rule (docs/SPECIFICATION.md, 'The canonical copy').
-- Assumes nothing.
use Rattle.std.specs.Prelude.{◌≡◌, ◌-◌}
use Rattle.shapes.specs.Splits.{SameSplits}
use Rattle.tree_check.specs.Table.{Table, tips, nodes, beyond}
use Rattle.counting.specs.Labels.{Labels}
use Rattle.counting.specs.SplitCounts.{beyond_at}
use Rattle.canonical.specs.Canonical.{IsCanonical}

-- the words c are the canonical copy of t with the labels l
pub record IsCopy (l : Labels) (t c : Table) : Type 0 where
  -- a table under the original rules, its nodes numbered depth first, children by their smallest label
  pub canonical : IsCanonical c
  -- as many labels as are counted, each the rank of one
  pub labels : tips c ≡ l.number
  -- the splits of the copy are those of t among these labels, by rank
  pub splits : SameSplits l.number (nodes t - 1) (beyond_at l t) (nodes c - 1) (beyond c)
