-- Some label lies beyond each edge of a tree table, and label 0 beyond none; common splits and the Robinson-Foulds distance
-- are the same counted from either tree.
-- Assumes nothing.
use Rattle.std.specs.Prelude.{◌≡◌, refl, ◌↔◌, T}
use Rattle.std.proofs.Common.{◌∙◌, arith}
use Rattle.std.proofs.Math.Logic.{inl, inr}
use Prim.Native.Nat.{ℕ, zero, suc, ◌+◌, ◌*◌, ◌-◌, ◌≤◌, ◌<◌}
use Rattle.sums.specs.Bits.{bit}
use Rattle.sums.specs.theorems.BitLaws.{is_other_lem}
use Rattle.shapes.specs.Ancestors.{anc}
use Rattle.shapes.proofs.theorems.AncestorLaws.{parent-lt, anc_at_zero, anc_self, anc_down, anc_trans}
use Rattle.shapes.specs.theorems.SplitLaws.{robinson_foulds_of}
use Rattle.shapes.proofs.theorems.SplitLaws.{same_splits-iff}
use Rattle.shapes.proofs.theorems.RobinsonFoulds as rf
use Rattle.shapes.proofs.theorems.RobinsonFoulds.{common_turned}
use Rattle.shapes.proofs.theorems.SameSplits as ss
use Rattle.tree_check.specs.Table.{Table, tips, nodes, parent, label, node_of, beyond}
use Rattle.tree_check.specs.IsTree.{IsTree, Child}
use Rattle.tree_check.specs.theorems.RootedTables.{rooted}
use Rattle.walks.specs.theorems.NodeLabels.{node_only}
use Rattle.counting.specs.Labels.{Labels}
use Rattle.counting.specs.SplitCounts.{beyond_at, splits, common_splits, robinson_foulds, HaveSameSplits}
use Rattle.counting.specs.theorems.TreeSplits.{same_splits}

module _ (t : Table) (g : IsTree t) where
  pub child_above : (i j : ℕ) → Child t i j → bit (anc (parent t) i j) ≡ 1
  child_above i j c =
      anc_down (parent t) (rooted t g) i j c.other (rw c.below (anc_self (parent t) (rooted t g) i))

  -- some label lies beyond v: its own, or one beyond a child; k bounds the steps down
  pub labelled : (k v : ℕ) → v < nodes t → nodes t ≤ v + k → (x : ℕ) × (x < tips t) × (bit (beyond t v x) ≡ 1)
  unfolding beyond
  labelled zero v lv f = absurd (omega arith)
  labelled (suc k) v lv f = elim (g.labels_range v lv) [
    | inl e ↦ (
        let child = g.inner_child v lv e in
        let j = child.0 in
        let c = child.1 in
        let below = parent-lt (parent t) (rooted t g) j c.other in
        let r = labelled k j c.node (omega (arith, c.below)) in
        (r.0, r.1, anc_trans (parent t) (rooted t g) v j (node_of t r.0) (child_above v j c) r.2))
    | inr l ↦ (
      label t v,
      l,
      rw (node_only t g (label t v) v l lv refl) (anc_self (parent t) (rooted t g) v),
    )
  ]

  -- label 0 lies beyond no edge
  pub zero_here : (i : ℕ) → 1 ≤ i → bit (beyond t i 0) ≡ 0
  unfolding beyond
  zero_here i l =
      let few = g.tips_range in let many = g.nodes_range in
      rw (node_only t g 0 0 (omega arith) (omega arith) g.root_label)
      (anc_at_zero (parent t) (rooted t g) i ∙ is_other_lem i 0 (omega arith))

-- ---- the four split counts of two tables

module _ (l : Labels) (t u : Table) where
  -- the common splits are as many counted from either tree
  pub common_from_either : common_splits l t u ≡ common_splits l u t
  unfolding common_splits
  common_from_either = common_turned l.number (nodes t - 1) (beyond_at l t) (nodes u - 1) (beyond_at l u)

  -- no more is taken off than is there
  pub robinson_foulds_fits : 2 * common_splits l t u ≤ splits l t + splits l u
  unfolding common_splits splits
  robinson_foulds_fits = rf.robinson_foulds_fits l.number (nodes t - 1) (beyond_at l t) (nodes u - 1) (beyond_at l u)

  -- the Robinson-Foulds distance is 0 exactly if the splits are the same
  pub robinson_foulds-zero : (robinson_foulds l t u ≡ 0) ↔ HaveSameSplits l t u
  unfolding robinson_foulds robinson_foulds_of common_splits splits
  robinson_foulds-zero = rf.robinson_foulds-zero l.number (nodes t - 1) (beyond_at l t) (nodes u - 1) (beyond_at l u)

  -- two trees with the same splits have as many
  pub same_splits_as_many : HaveSameSplits l t u → splits l t ≡ splits l u
  unfolding splits
  same_splits_as_many s = ss.same_splits_as_many l.number (nodes t - 1) (beyond_at l t) (nodes u - 1) (beyond_at l u) s

  -- the same splits, as a test
  pub same_splits_test : T (same_splits l t u) ↔ HaveSameSplits l t u
  unfolding same_splits
  same_splits_test = same_splits-iff l.number (nodes t - 1) (beyond_at l t) (nodes u - 1) (beyond_at l u)

-- .. and as many in common with any tree
pub same_splits_in_common : (l : Labels) (t u v : Table) → HaveSameSplits l u v → common_splits l t u ≡ common_splits l t v
unfolding common_splits
same_splits_in_common l t u v s = ss.same_splits_in_common
    l.number (nodes t - 1) (beyond_at l t) (nodes u - 1) (beyond_at l u) (nodes v - 1) (beyond_at l v) s
