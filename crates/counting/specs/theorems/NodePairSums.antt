-- The claim sums of two tables as sums over nodes and over pairs of nodes, and every partial sum below its whole.
-- This is what the counting code computes; the terms have closed forms in crate node_pairs.
-- Assumes nothing.
use Rattle.std.specs.Prelude.{ℕ, ◌-◌, ◌≤◌}
use Rattle.shapes.specs.Directions.{head}
use Rattle.node_pairs.specs.CodesInto.{degree_of, code_at}
use Rattle.node_pairs.specs.theorems.CodesOfANode.{Lists, lists_codes}
use Rattle.tree_check.specs.Table.{Table, nodes, parent}
use Rattle.counting.specs.ClaimSums.{codes}

-- the codes into each node of a table, each once
pub record CodesInto (t : Table) : Type 0 where
  pub degree : ℕ → ℕ
  pub code : ℕ → ℕ → ℕ
  pub lists : (v : ℕ) → v ≤ nodes t - 1 → Lists (codes t) (head (parent t)) v (degree v) (code v)

-- every table has such lists
abbrev pub codes_into : (t : Table) → CodesInto t
codes_into t = record {
  degree = degree_of (codes t) (head (parent t));
  code = code_at (codes t) (head (parent t));
  lists = λ v l. lists_codes (codes t) (head (parent t)) v;
}
