-- The invariant: no edge before `i` shows a pairing.
-- Assumes nothing.
use Prim.Native.Nat.{ℕ, ◌≤◌, ◌<◌}
use mathlib.Core.Path.{◌≡◌}
use Rattle.tree_check.specs.Table.{word}
use Rattle.trees.specs.lemmas.Sides.{pairing}
use Rattle.trees.proofs.witness.shown_edge.Given as goal

abbrev pub invariant-loop-i : goal.invariant-loop-i
invariant-loop-i l = (j : ℕ) → j < l.i → 1 ≤ j → pairing (word l.sides j) ≡ 0
