-- The invariant: the four sums are those over the first `counter` cells, and `k` and `l` are the places of the next.
-- Assumes nothing.
use mathlib.Core.Path.{◌≡◌}
use Prim.Native.Nat.{◌+◌, ◌*◌, ◌≤◌}
use Rattle.table_words.specs.Sizes.{tips_most}
use Rattle.sums.specs.Sum.{sum}
use Rattle.node_pairs.specs.theorems.ThreeRows.{products, weighed}
use Rattle.claims.specs.lemmas.CellLines.{line_cell}
use Rattle.claims.proofs.three_lines.two_lines.Given as goal

abbrev pub invariant-loop : goal.invariant-loop
invariant-loop l = (l.k ≡ l.at + l.counter * l.step)
    × (l.l ≡ l.to + l.counter * l.step)
    × (l.total ≡ sum l.counter (line_cell l.cells l.at l.step))
    × (l.squares ≡ products l.counter (line_cell l.cells l.at l.step) (line_cell l.cells l.at l.step))
    × (l.beside ≡ products l.counter (line_cell l.cells l.at l.step) (line_cell l.cells l.to l.step))
    × (l.weighed ≡ weighed l.counter (line_cell l.cells l.at l.step) (line_cell l.cells l.to l.step))
    × (l.total ≤ l.counter * tips_most)
    × (l.squares ≤ l.counter * 65536)
    × (l.beside ≤ l.counter * 65536)
    × (l.weighed ≤ l.counter * 33554432)
