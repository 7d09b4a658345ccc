-- The invariant: the line has been added to the first `dot-index` dot products, `s` is the sum of the squares of
-- what was added, and `k` the place of the next cell.
-- Assumes nothing.
use mathlib.Core.Path.{◌≡◌}
use Prim.Native.Nat.{◌+◌, ◌*◌, ◌≤◌}
use Rattle.sums.specs.Sum.{sum}
use Rattle.claims.specs.lemmas.CellLines.{squared}
use Rattle.claims.specs.lemmas.Filled.{filled_to}
use Rattle.claims.specs.lemmas.LineDots.{scaled, added}
use Rattle.claims.proofs.dots.add_line.Given as goal

abbrev pub invariant-loop-dot : goal.invariant-loop-dot
invariant-loop-dot l = (l.k ≡ l.at + l.dot-index * l.gap)
    × (l.dot-items ≡ filled_to (added l.cells l.fn.dots l.t l.at l.gap) l.dot-index l.initial.dot-items)
    × (l.s ≡ sum l.dot-index (squared (scaled l.cells l.t l.at l.gap)))
    × (l.s ≤ l.dot-index * 4294967296)
