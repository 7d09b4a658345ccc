-- A table whose nodes have other numbers has the same splits, so it gives the same topologies and figures.
-- Assumes nothing.
use Rattle.std.specs.Prelude.{◌≡◌, ℕ, zero, suc, ◌+◌, ◌-◌, ◌≤◌, ◌<◌}
use Rattle.std.proofs.Common.{sym, ◌∙◌, ap, inl, inr, eq-zero-or-pos, arith}
use Rattle.sums.specs.Bits.{bit, is}
use Rattle.sums.specs.theorems.BitLaws.{bit_inj, is_eq, is_other_lem, alike}
use Rattle.shapes.specs.theorems.AncestorLaws.{Rooted}
use Rattle.shapes.proofs.theorems.AncestorLaws.{up_ind, anc_at_zero, anc_up}
use Rattle.shapes.specs.Ancestors.{anc}
use Rattle.shapes.specs.Splits.{SameSides, same, AllOccur}
use Rattle.shapes.proofs.theorems.SplitLaws.{split_moves}
use Rattle.tree_check.specs.Table.{Table, tips, nodes, parent, label, node_of, beyond}
use Rattle.tree_check.specs.IsTree.{IsTree}
use Rattle.tree_check.specs.theorems.RootedTables.{rooted}
use Rattle.walks.specs.theorems.NodeLabels.{node_at, node_only}
use Rattle.counting.specs.Labels.{all}
use Rattle.counting.specs.SplitCounts.{beyond_at, HaveSameSplits}
use Rattle.counting.specs.theorems.LabelsAlone.{LabelsAlone}
use Rattle.counting.proofs.theorems.TipLabels.{labels_alone}
use Rattle.counting.specs.theorems.Renumbered.{Renumbered}

-- the parent of a node is a node
pub parent_node : (t : Table) → IsTree t → (i : ℕ) → i < nodes t → parent t i < nodes t
parent_node t g zero l = omega (arith, g.root_parent)
parent_node t g (suc w) l = omega (arith, (rooted t g).falls w)

-- and t is t' under other numbers
numbered_back : (t t' : Table) → IsTree t → Renumbered t t' → Renumbered t' t
numbered_back t t' g m = record {
  to = m.from;
  from = m.to;
  same_tips = sym m.same_tips;
  to_node = m.from_node;
  from_node = m.to_node;
  from_to = m.to_from;
  to_from = m.from_to;
  labels = λ j l. sym (m.labels (m.from j) (m.from_node j l)) ∙ ap (label t') (m.to_from j l);
  parents = λ j l. let i = m.from j in let li = m.from_node j l in
      sym (m.from_to (parent t i) (parent_node t g i li))
      ∙ ap m.from (sym (m.parents i li) ∙ ap (parent t') (m.to_from j l));
}

anc_step : (up : ℕ → ℕ) → Rooted up → (i v : ℕ) → 1 ≤ v → bit (anc up i v) ≡ is i v + bit (anc up i (up v))
anc_step up r i zero l = absurd (omega arith)
anc_step up r i (suc w) l = anc_up up r i w

module _ (t t' : Table) (g : IsTree t) (g' : IsTree t') (m : Renumbered t t') where
  -- different nodes stay different
  same_node : (i j : ℕ) → i < nodes t → j < nodes t → m.to i ≡ m.to j → i ≡ j
  same_node i j li lj e = sym (m.from_to i li) ∙ ap m.from e ∙ m.from_to j lj

  same_is : (i j : ℕ) → i < nodes t → j < nodes t → is (m.to i) (m.to j) ≡ is i j
  same_is i j li lj = elim (alike i j) [
    | inl e ↦ is_eq _ _ (ap m.to e.0) ∙ sym e.1
    | inr d ↦ is_other_lem _ _ (λ q. d.0 (same_node i j li lj q)) ∙ sym d.1
  ]

  -- the node of a label goes to the node of that label
  label_node : (x : ℕ) → x < tips t → node_of t' x ≡ m.to (node_of t x)
  label_node x l = let a = node_at t g x l in
      node_only t' g' x (m.to (node_of t x)) (omega (arith, m.same_tips)) (m.to_node _ a.0)
      (m.labels (node_of t x) a.0 ∙ a.1)

  some_node : 0 < nodes t
  some_node = let few = g.tips_range in let many = g.nodes_range in omega arith

  -- node 0 is the tip labelled 0 in both
  root_stays : m.to 0 ≡ 0
  root_stays =
      let few = g'.tips_range in let many = g'.nodes_range in
      sym (node_only t' g' 0 (m.to 0) (omega arith) (m.to_node 0 some_node) (m.labels 0 some_node ∙ g.root_label))
      ∙ node_only t' g' 0 0 (omega arith) (omega arith) g'.root_label

  no_root : (i : ℕ) → 1 ≤ i → i < nodes t → 1 ≤ m.to i
  no_root i l li = elim (eq-zero-or-pos (m.to i)) [
    | inl z ↦ absurd (omega (arith, same_node i 0 li some_node (z ∙ sym root_stays)))
    | inr p ↦ p
  ]

  -- ancestors go along: from a node's parent to the node
  same_anc : (i v : ℕ) → i < nodes t → v < nodes t
      → bit (anc (parent t') (m.to i) (m.to v)) ≡ bit (anc (parent t) i v)
  same_anc i v li =
      up_ind (parent t) (rooted t g)
      (λ v. v < nodes t → bit (anc (parent t') (m.to i) (m.to v)) ≡ bit (anc (parent t) i v))
      (λ l. rw root_stays (
      anc_at_zero (parent t') (rooted t' g') (m.to i)
      ∙ ap (is (m.to i)) (sym root_stays)
      ∙ same_is i 0 li l
      ∙ sym (anc_at_zero (parent t) (rooted t g) i)))
      (λ w ih l.
      anc_step (parent t') (rooted t' g') (m.to i) (m.to (suc w)) (no_root (suc w) (omega arith) l)
      ∙ rw (m.parents (suc w) l, same_is i (suc w) li l, ih (parent_node t g (suc w) l))
      (sym (anc_up (parent t) (rooted t g) i w)))
      v

  same_sides_lem : (i : ℕ) → i < nodes t → SameSides (tips t) (beyond t) (beyond t') i (m.to i)
  unfolding beyond
  same_sides_lem i li = same (λ x l. bit_inj _ _ (
      rw (label_node x l) (sym (same_anc i (node_of t x) li (node_at t g x l).0))))

  splits_occur : AllOccur (tips t) (nodes t - 1) (beyond t) (nodes t' - 1) (beyond t')
  splits_occur i s =
      let l : i < nodes t = omega (arith, s.above, s.edge) in
      let k = m.to_node i l in
      let h = same_sides_lem i l in
      (m.to i, split_moves (no_root i s.above l) (omega arith) s h, h)

pub renumbered-same_splits : (t t' : Table) → IsTree t → IsTree t' → Renumbered t t' → HaveSameSplits (all (tips t)) t t'
unfolding beyond_at
renumbered-same_splits t t' g g' m = record {
  there = splits_occur t t' g g' m;
  back = rw m.same_tips (splits_occur t' t g' g (numbered_back t t' g m));
}

pub renumbered_alone : (t t' : Table) → IsTree t → IsTree t' → Renumbered t t' → LabelsAlone t t'
renumbered_alone t t' g g' m = labels_alone t t' g g' m.same_tips (renumbered-same_splits t t' g g' m)
