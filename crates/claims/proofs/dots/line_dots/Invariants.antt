-- The invariant: `dots` holds the dot products over the first `counter` cells, `terms` the squares of their terms;
-- `k` is the place of the next cell of line `i`, and `at` that of line 0.
-- Assumes nothing.
use mathlib.Core.Path.{◌≡◌}
use Prim.Native.Nat.{◌+◌, ◌*◌, ◌≤◌}
use Rattle.claims.specs.lemmas.LineDots.{term_squares_of, Dotted}
use Rattle.claims.proofs.dots.line_dots.Given as goal

abbrev pub invariant-loop : goal.invariant-loop
invariant-loop l = (l.k ≡ l.i * l.gap + l.counter * l.step)
    × (l.at ≡ l.counter * l.step)
    × Dotted l.cells l.dots l.gap l.step l.i l.counter
    × (l.terms ≡ term_squares_of l.cells l.gap l.step l.i l.counter)
    × (l.terms ≤ l.counter * 1099511627776)
