-- The counting theorem over tables: what the claim sums say of the sets of four.
-- Assumes nothing.
use Rattle.shapes.specs.theorems.Counting.{SumsCount}
use Rattle.tree_check.specs.Table.{Table}
use Rattle.counting.specs.Labels.{Labels}
use Rattle.counting.specs.ClaimSums.{S, S2, S3}
use Rattle.counting.specs.declared.Case.TheVariants.{A, B, C, D, E}
use Rattle.counting.specs.Cases.{quartets}

-- the claim sums of two tables, and the counts of their sets of four
abbrev pub ClaimCounts : Labels → Table → Table → Type 0
ClaimCounts l t u = SumsCount l.number (S l t) (S l u) (S2 l t u) (S3 l t u)
    (quartets l t u A) (quartets l t u B) (quartets l t u C) (quartets l t u D) (quartets l t u E)
