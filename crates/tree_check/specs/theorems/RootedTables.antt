-- The parents of a tree table are a tree with the root 0.
-- Assumes nothing.
use Rattle.std.specs.Prelude.{◌≡◌, refl, ℕ, suc, ◌≤◌, take, drop}
use Rattle.std.proofs.Common.{ap, inl, inr, lt_of_not-le, eq-zero-or-pos, arith, length-take}
use Rattle.std.proofs.Math.Decide.{dec_le}
use Rattle.std.proofs.Math.ListN.{get_or-eq_default}
use Rattle.shapes.specs.theorems.AncestorLaws.{Rooted}
use Rattle.tree_check.specs.Table.{Table, nodes, parents, parent}
use Rattle.tree_check.specs.IsTree.{IsTree}

-- ---- a tree table as a shape

pub parent_past : (t : Table) (i : ℕ) → nodes t ≤ i → parent t i ≡ 0
unfolding parent parents
parent_past t i l =
    get_or-eq_default (take (nodes t) (drop 2 t)) 0 {n = i} (omega (arith, length-take (nodes t) (drop 2 t)))

pub rooted : (t : Table) → IsTree t → Rooted (parent t)
rooted t g = record { root = g.root_parent; falls = falls }
  where
    falls : (w : ℕ) → parent t (suc w) ≤ w
    falls w = elim (dec_le (nodes t) (suc w)) [
      | yes l ↦ omega (arith, parent_past t (suc w) l)
      | no n ↦ elim (eq-zero-or-pos w) [
        | inl z ↦ omega (arith, ((g.root_child 1).1 refl).below, ap (λ (x : ℕ). parent t (suc x)) z)
        | inr p ↦ omega (arith, (g.parents_range (suc w) (omega arith) (lt_of_not-le n)).1)
      ]
    ]
