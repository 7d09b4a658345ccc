-- Directed edges. Edge i joins node i to its parent; each edge has two directions, and each direction a code:
-- 2j is edge j + 1 towards the parent of node j + 1, and 2j + 1 is edge j + 1 towards node j + 1.
-- Assumes nothing.
use Rattle.std.specs.Prelude.{Bool, true, false, not, ℕ, suc, ◌/◌, ◌%◌, eqb}
use Rattle.shapes.specs.Ancestors.{anc}

unfoldable pub edge : ℕ → ℕ
edge c = suc (c / 2)

-- the direction towards the parent
unfoldable pub rising : ℕ → Bool
rising c = eqb (c % 2) 0

-- the node that the directed edge points to
unfoldable pub head : (ℕ → ℕ) → ℕ → ℕ
head up c = elim (rising c) [ true ↦ up (edge c) | false ↦ edge c ]

-- the node v lies behind the directed edge
unfoldable pub behind : (ℕ → ℕ) → ℕ → ℕ → Bool
behind up c v = elim (rising c) [ true ↦ anc up (edge c) v | false ↦ not (anc up (edge c) v) ]
