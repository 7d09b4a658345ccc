-- The cluster of an edge of a tree table: the labels beyond it. Clusters tell which node is above which.
-- Assumes nothing.
use Rattle.std.specs.Prelude.{◌≡◌, ℕ, suc, ◌-◌, ◌≤◌, ◌<◌}
use Rattle.std.proofs.Math.Path.{sym, ap}
use Rattle.std.proofs.Common.{◌∙◌, inl, inr, arith}
use Rattle.std.proofs.Math.Decide.{dec_le, ℕ_discrete}
use Rattle.sums.specs.Bits.{bit}
use Rattle.sums.specs.theorems.BitLaws.{bit_cases, bit_inj}
use Rattle.shapes.proofs.theorems.AncestorLaws.{up_ind, anc_self, anc_down, anc_trans, anc-line}
use Rattle.shapes.specs.Ancestors.{anc}
use Rattle.shapes.proofs.theorems.PathLaws.{towards}
use Rattle.shapes.specs.Splits.{same}
use Rattle.tree_check.specs.Table.{Table, tips, nodes, parent, label, node_of, beyond}
use Rattle.tree_check.specs.IsTree.{IsTree}
use Rattle.tree_check.specs.theorems.RootedTables.{rooted}
use Rattle.walks.specs.theorems.NodeLabels.{node_at}
use Rattle.counting.proofs.theorems.TreeSplits.{labelled}
use Rattle.counting.proofs.theorems.EdgesAsSplits.{edges_distinct}
use Rattle.counting.specs.theorems.PassThrough.{NoPassThrough}

module _ (t : Table) (g : IsTree t) where
  -- the labels beyond a lower edge are beyond the upper one
  pub above_inside : (i j x : ℕ) → bit (anc (parent t) i j) ≡ 1 → bit (beyond t j x) ≡ 1 → bit (beyond t i x) ≡ 1
  unfolding beyond
  above_inside i j x a b = anc_trans (parent t) (rooted t g) i j (node_of t x) a b

  -- two edges with a common label beyond are in line
  pub in_line : (i j x : ℕ) → i ≤ j → bit (beyond t i x) ≡ 1 → bit (beyond t j x) ≡ 1
      → bit (anc (parent t) i j) ≡ 1
  unfolding beyond
  in_line i j x l a b = anc-line (parent t) (rooted t g) i j (node_of t x) l a b

  pub some-label : (i : ℕ) → i < nodes t → (x : ℕ) × (x < tips t) × (bit (beyond t i x) ≡ 1)
  some-label i l = labelled t g (nodes t) i l (omega arith)

  -- an edge whose labels are beyond another is below it
  pub inside_above : (i j : ℕ) → 1 ≤ i → i < nodes t → 1 ≤ j → j < nodes t
      → NoPassThrough t
      → ((x : ℕ) → x < tips t → bit (beyond t j x) ≡ 1 → bit (beyond t i x) ≡ 1) → bit (anc (parent t) i j) ≡ 1
  inside_above i j li mi lj mj none h =
      let x = some-label j mj in
      elim (dec_le i j) [
        | yes l ↦ in_line i j x.0 l (h x.0 x.1 x.2) x.2
        | no m ↦ (
            let a = in_line j i x.0 (omega arith) x.2 (h x.0 x.1 x.2) in
            let e = edges_distinct t g none i j li mi lj mj (same (λ y ly. equal a y ly)) in absurd (omega arith))
      ]
    where
      equal : bit (anc (parent t) j i) ≡ 1 → (y : ℕ) → y < tips t → beyond t i y ≡ beyond t j y
      equal a y ly = bit_inj _ _ (elim (bit_cases (beyond t i y)) [
        | inl z ↦ elim (bit_cases (beyond t j y)) [
          | inl w ↦ omega arith
          | inr o ↦ omega (arith, h y ly o)
        ]
        | inr o ↦ omega (arith, above_inside j i y a o)
      ])

  -- the node of a label other than 0 is not node 0
  pub node_pos : (x : ℕ) → 1 ≤ x → x < tips t → 1 ≤ node_of t x
  node_pos x l m = elim (dec_le 1 (node_of t x)) [
    | yes p ↦ p
    | no n ↦ (let z : node_of t x ≡ 0 = omega arith in
        absurd (omega (arith, (node_at t g x m).1, g.root_label, ap (label t) z)))
  ]

  -- beyond a tip's edge there is its label alone
  pub tip-label : (x : ℕ) → x < tips t → bit (beyond t (node_of t x) x) ≡ 1
  unfolding beyond
  tip-label x l = anc_self (parent t) (rooted t g) (node_of t x)

  pub tip_alone : (x y : ℕ) → 1 ≤ x → x < tips t → y < tips t → bit (beyond t (node_of t x) y) ≡ 1 → y ≡ x
  unfolding beyond
  tip_alone x y l lx ly h =
      let nx = node_at t g x lx in let ny = node_at t g y ly in
      elim (ℕ_discrete (node_of t x) (node_of t y)) [
        | yes e ↦ sym ny.1 ∙ ap (label t) (sym e) ∙ nx.1
        | no d ↦ (
            let s = towards (parent t) (rooted t g) (nodes t - 1) (node_of t x) (node_of t y) (omega arith) d h in
            absurd (g.tip_bare (node_of t x) (node_pos x l lx) nx.0 (omega (arith, nx.1)) (suc s.0)
            (record { other = omega arith; node = omega (arith, s.1); below = s.2 })))
      ]

  -- beyond edge 1 there are all labels but 0
  under_one : (v : ℕ) → 1 ≤ v → v < nodes t → bit (anc (parent t) 1 v) ≡ 1
  under_one =
      up_ind (parent t) (rooted t g) (λ v. 1 ≤ v → v < nodes t → bit (anc (parent t) 1 v) ≡ 1)
      (λ l m. absurd (omega arith))
      (λ w ih l m. elim (dec_le 1 w) [
        | yes p ↦ (let q = g.parents_range (suc w) (omega arith) m in
            anc_down (parent t) (rooted t g) 1 (suc w) (omega arith) (ih q.0 (omega (arith, q.1))))
        | no n ↦ (let e : w ≡ 0 = omega arith in rw e (anc_self (parent t) (rooted t g) 1))
      ])

  pub top_all : (x : ℕ) → 1 ≤ x → x < tips t → bit (beyond t 1 x) ≡ 1
  unfolding beyond
  top_all x l m = under_one (node_of t x) (node_pos x l m) (node_at t g x m).0
