-- Passing through changes nothing: a table and the one with its pass-through nodes taken out have the same splits, so they
-- give the same topologies and figures.
-- Assumes nothing.
use Rattle.std.specs.Prelude.{◌≡◌, Bool, ◌≢◌, T}
use Rattle.std.proofs.Common.{sym, ◌∙◌, subst, inl, inr, lt_of_not-le, eq-zero-or-pos}
use Rattle.std.proofs.Math.Path.{ap}
use Prim.Native.Nat.{ℕ, zero, suc, ◌+◌, ◌-◌, ◌≤◌, ◌<◌}
use Rattle.std.proofs.Math.Decide.{dec_le, ℕ_discrete}
use native.Mathlib.Omega.{arith}
use Rattle.sums.specs.Bits.{bit}
use Rattle.sums.specs.theorems.BitLaws.{bit-T, T-bit, bit_inj, is_other_lem}
use Rattle.sums.specs.theorems.TestLaws.{same_test}
use Rattle.shapes.specs.Ancestors.{anc}
use Rattle.shapes.proofs.theorems.AncestorLaws.{up_ind, parent-lt, anc_at_zero, anc_up, anc_self, anc_root}
use Rattle.shapes.proofs.theorems.AncestorLaws.{anc_trans, anc-line}
use Rattle.shapes.proofs.theorems.PathLaws.{towards}
use Rattle.shapes.specs.Splits.{SameSides, same, AllOccur}
use Rattle.shapes.proofs.theorems.SplitLaws.{split_moves}
use Rattle.tree_check.specs.Table.{Table, tips, nodes, parent, label, node_of, beyond}
use Rattle.tree_check.specs.IsTree.{IsTree, Child}
use Rattle.tree_check.specs.theorems.RootedTables.{rooted}
use Rattle.walks.specs.theorems.NodeLabels.{node_at, node_only}
use Rattle.counting.specs.Labels.{all}
use Rattle.counting.specs.SplitCounts.{beyond_at, HaveSameSplits}
use Rattle.counting.specs.theorems.LabelsAlone.{LabelsAlone}
use Rattle.counting.specs.theorems.PassThrough.{PassThrough, NextAbove, TakenOut}
use Rattle.counting.proofs.theorems.TipLabels.{labels_alone}
use Rattle.counting.proofs.theorems.TreeSplits.{child_above, zero_here}
use Rattle.counting.proofs.theorems.Renumbered.{parent_node}
use Rattle.counting.proofs.theorems.PassThroughNodes.{pass_through_or_not}

passed : (b : Bool) → bit b ≡ 1 → T b
passed b e = T-bit b (omega (arith, e))

-- ---- beyond a pass-through node lies what lies beyond its child

module _ (t : Table) (g : IsTree t) where
  through_child : (i : ℕ) (p : PassThrough t i) (x : ℕ) → x < tips t → beyond t i x ≡ beyond t p.child x
  unfolding beyond
  through_child i p x l = same_test (anc (parent t) i v) (anc (parent t) p.child v) down up
    where
      v : ℕ
      v = node_of t x

      up : T (anc (parent t) p.child v) → T (anc (parent t) i v)
      up y =
          let a = child_above t g i p.child p.below in
          passed (anc (parent t) i v)
          (anc_trans (parent t) (rooted t g) i p.child v a (bit-T (anc (parent t) p.child v) y))

      -- the node is no tip
      other : i ≢ v
      other e = let few = g.tips_range in omega (arith, (node_at t g x l).1, p.inner, ap (label t) e)

      down : T (anc (parent t) i v) → T (anc (parent t) p.child v)
      down y =
          let a = (node_at t g x l).0 in
          let h = bit-T (anc (parent t) i v) y in
          let s = towards (parent t) (rooted t g) (nodes t - 1) i v (omega arith) other h in
          let c : Child t i (suc s.0) = record { other = omega arith; node = omega (arith, s.1); below = s.2 } in
          passed (anc (parent t) p.child v)
          (subst (λ (j : ℕ). bit (anc (parent t) j v) ≡ 1) (p.single (suc s.0) c) s.3)

module _ (t u : Table) (g : IsTree t) (h : IsTree u) (m : TakenOut t u) where
  some_node : 0 < nodes u
  some_node = let few = h.tips_range in let many = h.nodes_range in omega arith

  -- node 0 is the tip labelled 0 in both
  root_stays : m.node 0 ≡ 0
  root_stays =
      let few = g.tips_range in let many = g.nodes_range in
      sym (node_only t g 0 (m.node 0) (omega arith) (m.kept 0 some_node).0 (sym (m.labels 0 some_node) ∙ h.root_label))
      ∙ node_only t g 0 0 (omega arith) (omega arith) g.root_label

  no_root : (i : ℕ) → 1 ≤ i → i < nodes u → 1 ≤ m.node i
  no_root i l li = elim (eq-zero-or-pos (m.node i)) [
    | inl z ↦ absurd (omega (arith, m.different i 0 li some_node (z ∙ sym root_stays)))
    | inr p ↦ p
  ]

  -- the node of a label goes to the node of that label
  label_node : (x : ℕ) → x < tips t → node_of t x ≡ m.node (node_of u x)
  label_node x l =
      let a = node_at u h x (omega (arith, m.same_tips)) in
      node_only t g x (m.node (node_of u x)) l (m.kept (node_of u x) a.0).0 (sym (m.labels (node_of u x) a.0) ∙ a.1)

  -- what of the other nodes is above a node is above its parent
  above_next : (i v : ℕ) → i < nodes u → v < nodes u → 1 ≤ v → i ≢ v
      → bit (anc (parent t) (m.node i) (m.node v)) ≡ bit (anc (parent t) (m.node i) (m.node (parent u v)))
  above_next i v li lv l d = ap bit (same_test (anc (parent t) e f) (anc (parent t) e p) past down)
    where
      e : ℕ
      e = m.node i

      f : ℕ
      f = m.node v

      p : ℕ
      p = m.node (parent u v)

      next : NextAbove t p f
      next = m.parents v l lv

      down : T (anc (parent t) e p) → T (anc (parent t) e f)
      down y = passed (anc (parent t) e f) (anc_trans (parent t) (rooted t g) e p f (bit-T (anc (parent t) e p) y)
          (bit-T (anc (parent t) p f) next.above))

      past : T (anc (parent t) e f) → T (anc (parent t) e p)
      past y =
          let a = bit-T (anc (parent t) e f) y in
          let b = bit-T (anc (parent t) p f) next.above in
          elim (dec_le e p) [
            | yes q ↦ passed (anc (parent t) e p) (anc-line (parent t) (rooted t g) e p f q a b)
            | no q ↦ absurd ((m.kept i li).1 (next.between e
                (passed (anc (parent t) p e) (anc-line (parent t) (rooted t g) p e f (omega (arith, lt_of_not-le q)) b a))
                y (omega (arith, lt_of_not-le q)) (λ k. d (m.different i v li lv k))))
          ]

  -- ancestors go along: from a node's parent to the node
  same_anc : (i v : ℕ) → i < nodes u → v < nodes u
      → bit (anc (parent t) (m.node i) (m.node v)) ≡ bit (anc (parent u) i v)
  same_anc i v li =
      up_ind (parent u) (rooted u h)
      (λ v. v < nodes u → bit (anc (parent t) (m.node i) (m.node v)) ≡ bit (anc (parent u) i v))
      (λ l. elim (ℕ_discrete i 0) [
        | yes e ↦ rw e (anc_self (parent t) (rooted t g) (m.node 0) ∙ sym (anc_self (parent u) (rooted u h) 0))
        | no d ↦ rw root_stays (
            anc_at_zero (parent t) (rooted t g) (m.node i)
            ∙ is_other_lem (m.node i) 0 (λ z. d (m.different i 0 li some_node (z ∙ sym root_stays)))
            ∙ sym (is_other_lem i 0 d)
            ∙ sym (anc_at_zero (parent u) (rooted u h) i))
      ])
      (λ w ih l. elim (ℕ_discrete i (suc w)) [
        | yes e ↦ rw e (anc_self (parent t) (rooted t g) (m.node (suc w)) ∙ sym (anc_self (parent u) (rooted u h) (suc w)))
        | no d ↦ (
            above_next i (suc w) li l (omega arith) d
            ∙ ih (parent_node u h (suc w) l)
            ∙ omega (arith, anc_up (parent u) (rooted u h) i w, is_other_lem i (suc w) d))
      ])
      v

  -- the same tips lie beyond a node in both tables
  same_beyond : (i : ℕ) → i < nodes u → (x : ℕ) → x < tips t → beyond t (m.node i) x ≡ beyond u i x
  unfolding beyond
  same_beyond i li x l = bit_inj _ _ (
      rw (label_node x l) (same_anc i (node_of u x) li (node_at u h x (omega (arith, m.same_tips))).0))

  -- beyond any node of t lie the tips beyond a node of u; k bounds the steps down
  beyond_kept : (k j : ℕ) → j < nodes t → nodes t ≤ j + k
      → (i : ℕ) × (i < nodes u) × ((x : ℕ) → x < tips t → beyond t j x ≡ beyond u i x)
  beyond_kept zero j l f = absurd (omega arith)
  beyond_kept (suc k) j l f = elim (pass_through_or_not t j) [
    | inr np ↦ (
        let r = m.all j l np in
        (r.0, r.1, λ x lx. ap (λ (v : ℕ). beyond t v x) (sym r.2) ∙ same_beyond r.0 r.1 x lx))
    | inl p ↦ (
        let c = p.below in
        let low = parent-lt (parent t) (rooted t g) p.child c.other in
        let r = beyond_kept k p.child c.node (omega (arith, c.below)) in
        (r.0, r.1, λ x lx. through_child t g j p x lx ∙ r.2 x lx))
  ]

  there : AllOccur (tips t) (nodes t - 1) (beyond t) (nodes u - 1) (beyond u)
  unfolding beyond
  there i s =
      let r = beyond_kept (nodes t) i (omega (arith, s.above, s.edge)) (omega arith) in
      let sides : SameSides (tips t) (beyond t) (beyond u) i r.0 = same r.2 in
      (r.0, split_moves (edge r.0 r.2) (omega (arith, r.1)) s sides, sides)
    where
      -- label 0 lies beyond node 0 and beyond no edge
      edge : (j : ℕ) → ((x : ℕ) → x < tips t → beyond t i x ≡ beyond u j x) → 1 ≤ j
      edge zero e =
          let few = g.tips_range in
          absurd (omega (
            arith,
            zero_here t g i s.above,
            ap bit (e 0 (omega arith)),
            anc_root (parent u) (rooted u h) (node_of u 0),
          ))
      edge (suc j) e = omega arith

  back : AllOccur (tips t) (nodes u - 1) (beyond u) (nodes t - 1) (beyond t)
  back i s =
      let l : i < nodes u = omega (arith, s.above, s.edge) in
      let k = (m.kept i l).0 in
      let sides : SameSides (tips t) (beyond u) (beyond t) i (m.node i) = same (λ x lx. sym (same_beyond i l x lx)) in
      (m.node i, split_moves (no_root i s.above l) (omega arith) s sides, sides)

  pub taken_out_same_splits : HaveSameSplits (all (tips t)) t u
  unfolding beyond_at
  taken_out_same_splits = record { there = there; back = back }

  -- the same topologies, and against any third table the same claim sums, five counts, splits and triplets
  pub passing_through_changes_nothing : LabelsAlone t u
  passing_through_changes_nothing = labels_alone t u g h m.same_tips taken_out_same_splits
