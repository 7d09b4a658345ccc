-- The invariant: `squares` and `terms` are the sums over the lines before line `i`.
-- Assumes nothing.
use mathlib.Core.Path.{◌≡◌}
use Prim.Native.Nat.{◌*◌, ◌≤◌}
use Rattle.sums.specs.Sum.{sum}
use Rattle.claims.specs.lemmas.LineDots.{dot_squares_of, term_squares_of}
use Rattle.claims.proofs.dots.all_dots.Given as goal

abbrev pub invariant-loop-i : goal.invariant-loop-i
invariant-loop-i s = (s.squares ≡ sum s.i (λ l. dot_squares_of s.cells s.gap s.step l s.len))
    × (s.terms ≡ sum s.i (λ l. term_squares_of s.cells s.gap s.step l s.len))
    × (s.squares ≤ s.i * 1099511627776)
    × (s.terms ≤ s.i * 281474976710656)
