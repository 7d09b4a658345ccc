-- The invariant: `total` and `weighed` are the sums over the first `counter` cells, and `k` the place of the next in the first line.
-- Assumes nothing.
use mathlib.Core.Path.{◌≡◌}
use Prim.Native.Nat.{◌*◌, ◌≤◌}
use Rattle.node_pairs.specs.theorems.ThreeRows.{products3, weighed3}
use Rattle.claims.specs.lemmas.CellLines.{line_cell}
use Rattle.claims.proofs.three_lines.all_lines.Given as goal

abbrev pub invariant-loop : goal.invariant-loop
invariant-loop l = (l.k ≡ l.counter * l.step)
    × (l.total ≡ products3 l.counter (line_cell l.cells 0 l.step) (line_cell l.cells l.gap l.step) (line_cell l.cells (2 * l.gap) l.step))
    × (l.weighed ≡ weighed3 l.counter (line_cell l.cells 0 l.step) (line_cell l.cells l.gap l.step) (line_cell l.cells (2 * l.gap) l.step))
    × (l.total ≤ l.counter * 16777216)
    × (l.weighed ≤ l.counter * 12884901888)
