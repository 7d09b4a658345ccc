-- The invariant: the first `j` cells of the row are filled.
-- Assumes nothing.
use mathlib.Core.Path.{◌≡◌}
use mathlib.Core.List.{List}
use Prim.Native.Nat.{ℕ, ◌≤◌, ◌<◌}
use lib.ListN.{length}
use Rattle.tree_check.specs.Table.{word}
use Rattle.claims.specs.lemmas.NodeBlock.{BlockWritten}
use Rattle.claims.proofs.fills.fill_row.Given as goal

abbrev pub invariant-loop-j : goal.invariant-loop-j
invariant-loop-j g l = (f : ℕ → ℕ) (old : List ℕ)
    → ((j v : ℕ) → 1 ≤ j → j < length l.edges → goal.G-post g l.later (word l.edges j) v → v ≡ f j)
    → BlockWritten old l.initial.cells l.at 1 f → BlockWritten old l.cells l.at l.j f
