-- A tree given by parents, re-rooted at node z: the path from z to the old root is numbered first, from z on, and reversed;
-- the other nodes keep their order (docs/SPECIFICATION.md, 'Re-rooting').
-- Assumes nothing.
use Rattle.std.specs.Prelude.{true, false, ◌&&◌, ℕ, ◌+◌, ◌-◌, eqb, ltb}
use Rattle.sums.specs.Counts.{count}
use Rattle.sums.specs.Tests.{first}
use Rattle.shapes.specs.Ancestors.{anc}

-- how many of the path from z to the root, of m nodes, have larger numbers than v
unfoldable pub path_after : (ℕ → ℕ) → ℕ → ℕ → ℕ → ℕ
path_after up m z v = count m (λ w. anc up w z && ltb v w)

-- the new number of node v
unfoldable pub renumbered : (ℕ → ℕ) → ℕ → ℕ → ℕ → ℕ
renumbered up m z v = elim (anc up v z) [ true ↦ 0 | false ↦ v ] + path_after up m z v

-- the node with the new number i
unfoldable pub node_numbered : (ℕ → ℕ) → ℕ → ℕ → ℕ → ℕ
node_numbered up m z i = first m (λ v. eqb (renumbered up m z v) i)

-- its new parent: on the path the node before, off it the parent that it had
unfoldable pub rerooted_up : (ℕ → ℕ) → ℕ → ℕ → ℕ → ℕ
rerooted_up up m z i = let v = node_numbered up m z i in
    elim (anc up v z) [ true ↦ i - 1 | false ↦ renumbered up m z (up v) ]
