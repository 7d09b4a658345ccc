-- A tree table is a shape: its labels sit at different leaves.
-- Assumes nothing.
use Rattle.std.specs.Prelude.{◌≡◌, refl, ◌⊎◌, ℕ, suc, ◌*◌, ◌-◌, ◌/◌, ◌<◌}
use Rattle.std.proofs.Common.{sym, ◌∙◌, ap, inl, inr, eq-zero-or-pos, arith}
use Rattle.shapes.specs.Directions.{head}
use Rattle.shapes.proofs.theorems.DirectionLaws.{head_even, head_odd, code_cases}
use Rattle.shapes.specs.theorems.Shape.{Leaf, Shape}
use Rattle.tree_check.specs.Table.{Table, tips, nodes, parent, label, node_of}
use Rattle.tree_check.specs.IsTree.{IsTree, Child}
use Rattle.tree_check.specs.theorems.RootedTables.{rooted}
use Rattle.walks.specs.theorems.NodeLabels.{node_at}
use Rattle.counting.specs.Labels.{Labels}
use Rattle.counting.specs.theorems.LabelLaws.{Rising}
use Rattle.counting.proofs.theorems.LabelLaws.{at_apart}

module _ (t : Table) (g : IsTree t) where
  -- a tip has a child only if it is node 0, and then the child is node 1
  tip_child : (j : ℕ) → suc j < nodes t → label t (parent t (suc j)) < tips t → (parent t (suc j) ≡ 0) × (j ≡ 0)
  tip_child j m l = go (eq-zero-or-pos (parent t (suc j)))
    where
      child : (i : ℕ) → parent t (suc j) ≡ i → Child t i (suc j)
      child i e = record { other = omega arith; node = m; below = e }

      go : (parent t (suc j) ≡ 0) ⊎ (0 < parent t (suc j)) → (parent t (suc j) ≡ 0) × (j ≡ 0)
      go (inl z) = let e = (g.root_child (suc j)).0 (child 0 z) in (z, omega arith)
      go (inr p) = absurd (g.tip_bare (parent t (suc j)) p (omega (arith, (rooted t g).falls j)) l (suc j) (child _ refl))

  -- the one code into a tip
  into_tip : (v c : ℕ) → label t v < tips t → c < 2 * (nodes t - 1) → head (parent t) c ≡ v
      → ((v ≡ 0) × (c ≡ 0)) ⊎ (suc c ≡ 2 * v)
  into_tip v c l m h = elim (code_cases c) [
    | inl e ↦ (let q = sym (ap (head (parent t)) e ∙ head_even (parent t) (c / 2)) ∙ h in
        let b = tip_child (c / 2) (omega arith) (rw q l) in inl (omega (arith, b.0, q), omega (arith, b.1, e)))
    | inr e ↦ (let q = sym (ap (head (parent t)) e ∙ head_odd (parent t) (c / 2)) ∙ h in inr (omega (arith, q, e)))
  ]

  pub tip_leaf : (v : ℕ) → label t v < tips t → Leaf (parent t) (nodes t - 1) v
  tip_leaf v l c d lc ld hc hd = go (into_tip v c l lc hc) (into_tip v d l ld hd)
    where
      go : ((v ≡ 0) × (c ≡ 0)) ⊎ (suc c ≡ 2 * v) → ((v ≡ 0) × (d ≡ 0)) ⊎ (suc d ≡ 2 * v) → c ≡ d
      go (inl a) (inl b) = omega arith
      go (inl a) (inr b) = omega arith
      go (inr a) (inl b) = omega arith
      go (inr a) (inr b) = omega arith

  -- the shape over the labels that are counted
  unfoldable pub shape_of : (l : Labels) → Rising (tips t) l → Shape l.number
  shape_of l r = record {
    up = parent t;
    tree = rooted t g;
    edges = nodes t - 1;
    node = λ x. node_of t (l.at x);
    node_le = λ x m. omega (arith, (node_at t g (l.at x) (r.inside x m)).0);
    node_ne = λ x y lx ly d q. at_apart (tips t) l r x y lx ly d (
        sym (node_at t g (l.at x) (r.inside x lx)).1 ∙ ap (label t) q ∙ (node_at t g (l.at y) (r.inside y ly)).1);
    leaf = λ x m. let a = node_at t g (l.at x) (r.inside x m) in
        tip_leaf (node_of t (l.at x)) (omega (arith, a.1, r.inside x m));
  }
