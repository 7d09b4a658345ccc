-- The triplets over the kept labels, by sums over edges and over pairs of edges.
-- Assumes nothing.
use Rattle.std.specs.Prelude.{List, ℕ, ◌*◌}
use Rattle.sums.specs.Sum.{sum}
use Rattle.sums.specs.Bits.{bit}
use Rattle.shapes.specs.theorems.TripletCounts.{alike_term, apart_term, edge_term}
use Rattle.tree_check.specs.Table.{Table, parent, beyond}
use Rattle.counting.specs.Kept.{is_other}

-- how many kept labels but 0 lie beyond edge i; and beyond edge i of t and edge j of u, of n labels
unfoldable pub size_over : List ℕ → ℕ → Table → ℕ → ℕ
size_over marks n t i = sum n (λ y. bit (is_other marks 0 y) * bit (beyond t i y))

unfoldable pub both_over : List ℕ → ℕ → Table → Table → ℕ → ℕ → ℕ
both_over marks n t u i j = sum n (λ y. bit (is_other marks 0 y) * (bit (beyond t i y) * bit (beyond u j y)))

-- the terms of two edges, by the labels beyond them and beyond their parents'
unfoldable pub alike_over : List ℕ → ℕ → Table → Table → ℕ → ℕ → ℕ
alike_over marks n t u i j = alike_term (both_over marks n t u i j) (both_over marks n t u i (parent u j))
    (both_over marks n t u (parent t i) j) (both_over marks n t u (parent t i) (parent u j))

unfoldable pub apart_over : List ℕ → ℕ → Table → Table → ℕ → ℕ → ℕ
apart_over marks n t u i j = apart_term (both_over marks n t u i j) (both_over marks n t u i (parent u j)) (both_over marks n t u (parent t i) j)

unfoldable pub edge_over : List ℕ → ℕ → Table → ℕ → ℕ
edge_over marks n t i = edge_term (size_over marks n t i) (size_over marks n t (parent t i))
