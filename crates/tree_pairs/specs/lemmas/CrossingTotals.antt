-- A crossing count is a total over the first tree: of the kept tips at or below a node, those beyond an edge of the second.
-- Assumes nothing.
use Rattle.std.specs.Prelude.{Bool, ℕ, ◌*◌, ltb}
use Rattle.sums.specs.Bits.{bit}
use Rattle.sums.specs.Counts.{count}
use Rattle.shapes.specs.Ancestors.{anc}
use Rattle.tree_check.specs.Table.{Table, tips, parent, label, node_of, beyond}
use Rattle.counting.specs.Labels.{Labels}
use Rattle.counting.specs.Kept.{kept_at}

-- 1 if node x of the first tree is a tip whose label is kept and lies beyond edge j of the second
abbrev pub kept_beyond : (ℕ → Bool) → Table → Table → ℕ → ℕ → ℕ
kept_beyond q t u j x = bit (ltb (label t x) (tips t)) * (bit (q (label t x)) * bit (anc (parent u) j (node_of u (label t x))))

-- the labels of t that pass q
abbrev pub passing_in : (ℕ → Bool) → Table → Labels
passing_in q t = record { number = count (tips t) q; at = kept_at q (tips t) }
